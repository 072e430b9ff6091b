-- Which library this is, for a program that may have been compiled with the header of another one.
use Rattle.std.specs.Prelude.{ℕ, ◌+◌, ◌*◌}

-- the three numbers of the version as one; docs/VERSIONS.md says when each of them moves
abbrev pub version_of : ℕ → ℕ → ℕ → ℕ
version_of major minor patch = major * 1000000 + minor * 1000 + patch

abbrev pub version : ℕ
version = version_of 1 1 0

-- the bytes of the struct `Session`
abbrev pub session_size : ℕ
session_size = 5784
