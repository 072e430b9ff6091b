-- The number of a window, where there is none.
use Rattle.window.specs.declared.ids.WinId.{WinId}

-- what a read past the end of the order gives
abbrev pub no_id : WinId
no_id = record { 0 = 0 }
