-- The kinds of lines by their names: a number for each word that a line begins with.
use Rattle.std.specs.Prelude.{ℕ}
use Rattle.script.specs.declared.kind.Kind.{Kind}
use Rattle.script.specs.declared.kind.Kind.TheVariants as variant

abbrev pub passed : ℕ
passed = 0

abbrev pub malformed : ℕ
malformed = 1

abbrev pub start : ℕ
start = 2

abbrev pub create : ℕ
create = 3

abbrev pub show : ℕ
show = 4

abbrev pub hide : ℕ
hide = 5

abbrev pub drop : ℕ
drop = 6

abbrev pub mark : ℕ
mark = 7

abbrev pub move : ℕ
move = 8

abbrev pub resize : ℕ
resize = 9

abbrev pub fill : ℕ
fill = 10

abbrev pub blit : ℕ
blit = 11

abbrev pub keydown : ℕ
keydown = 12

abbrev pub keyup : ℕ
keyup = 13

abbrev pub keyfire : ℕ
keyfire = 14

abbrev pub text : ℕ
text = 15

abbrev pub mousemove : ℕ
mousemove = 16

abbrev pub mousedown : ℕ
mousedown = 17

abbrev pub mouseup : ℕ
mouseup = 18

abbrev pub mouseclick : ℕ
mouseclick = 19

abbrev pub resized : ℕ
resized = 20

abbrev pub pop : ℕ
pop = 21

abbrev pub redraw : ℕ
redraw = 22

abbrev pub visible : ℕ
visible = 23

abbrev pub focus : ℕ
focus = 24

abbrev pub lend : ℕ
lend = 25

abbrev pub lend_screen : ℕ
lend_screen = 26

abbrev pub lend_list : ℕ
lend_list = 27

abbrev pub screen : ℕ
screen = 28

abbrev pub pixels : ℕ
pixels = 29

abbrev pub picture : ℕ
picture = 30

abbrev pub intersect : ℕ
intersect = 31

abbrev pub pieces : ℕ
pieces = 32

abbrev pub union : ℕ
union = 33

abbrev pub contains : ℕ
contains = 34

abbrev pub contains_rect : ℕ
contains_rect = 35

abbrev pub within : ℕ
within = 36

abbrev pub scanline : ℕ
scanline = 37

abbrev pub fill_scanline : ℕ
fill_scanline = 38

abbrev pub set_scanline : ℕ
set_scanline = 39

abbrev pub region : ℕ
region = 40

abbrev pub begin : ℕ
begin = 41

abbrev pub portion : ℕ
portion = 42

abbrev pub busiest : ℕ
busiest = 43

abbrev pub share : ℕ
share = 44

abbrev pub hits : ℕ
hits = 45

abbrev pub dim : ℕ
dim = 46

abbrev pub layer : ℕ
layer = 47

abbrev pub look : ℕ
look = 48

abbrev pub look_fit : ℕ
look_fit = 49

abbrev pub lend_target : ℕ
lend_target = 50

abbrev pub display : ℕ
display = 51

abbrev pub display_at : ℕ
display_at = 52

abbrev pub maximise : ℕ
maximise = 53

abbrev pub update_dims : ℕ
update_dims = 54

abbrev pub sheet : ℕ
sheet = 55

abbrev pub read_sheet : ℕ
read_sheet = 56

abbrev pub lend_sheet : ℕ
lend_sheet = 57

abbrev pub raise : ℕ
raise = 58

abbrev pub drag : ℕ
drag = 59

abbrev pub stale : ℕ
stale = 60

abbrev pub waiting : ℕ
waiting = 61

abbrev pub window : ℕ
window = 62

abbrev pub session : ℕ
session = 63

abbrev pub who : ℕ
who = 64

-- the last of them
abbrev pub last : ℕ
last = who

-- the number of a kind as the code has it
abbrev pub code_of : Kind → ℕ
code_of variant.Passed = passed
code_of variant.Malformed = malformed
code_of variant.Start = start
code_of variant.Create = create
code_of variant.Show = show
code_of variant.Hide = hide
code_of variant.Drop = drop
code_of variant.Mark = mark
code_of variant.Move = move
code_of variant.Resize = resize
code_of variant.Fill = fill
code_of variant.Blit = blit
code_of variant.KeyDown = keydown
code_of variant.KeyUp = keyup
code_of variant.KeyFire = keyfire
code_of variant.Text = text
code_of variant.MouseMove = mousemove
code_of variant.MouseDown = mousedown
code_of variant.MouseUp = mouseup
code_of variant.MouseClick = mouseclick
code_of variant.Resized = resized
code_of variant.Pop = pop
code_of variant.Redraw = redraw
code_of variant.Visible = visible
code_of variant.Focus = focus
code_of variant.Lend = lend
code_of variant.LendScreen = lend_screen
code_of variant.LendList = lend_list
code_of variant.Screen = screen
code_of variant.Pixels = pixels
code_of variant.Picture = picture
code_of variant.Intersect = intersect
code_of variant.Pieces = pieces
code_of variant.Union = union
code_of variant.Contains = contains
code_of variant.ContainsRect = contains_rect
code_of variant.Within = within
code_of variant.Scanline = scanline
code_of variant.FillScanline = fill_scanline
code_of variant.SetScanline = set_scanline
code_of variant.Region = region
code_of variant.Begin = begin
code_of variant.Portion = portion
code_of variant.Busiest = busiest
code_of variant.Share = share
code_of variant.Hits = hits
code_of variant.Dim = dim
code_of variant.Layer = layer
code_of variant.Look = look
code_of variant.LookFit = look_fit
code_of variant.LendTarget = lend_target
code_of variant.Display = display
code_of variant.DisplayAt = display_at
code_of variant.Maximise = maximise
code_of variant.UpdateDims = update_dims
code_of variant.Sheet = sheet
code_of variant.ReadSheet = read_sheet
code_of variant.LendSheet = lend_sheet
code_of variant.Raise = raise
code_of variant.Drag = drag
code_of variant.Stale = stale
code_of variant.Waiting = waiting
code_of variant.Window = window
code_of variant.Session = session
code_of variant.Who = who
