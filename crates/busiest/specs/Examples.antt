-- Runs and their busiest seconds, by computation.
use Rattle.std.specs.Prelude.{ℕ, ◌≡◌, refl, List, [], ◌∷◌, replicate}
use Rattle.busiest.specs.Busiest.{Second, busiest, refused}

-- the answer 0 with a count and a place
abbrev found : ℕ → ℕ → Second
found n p = record { answer = 0; count = n; place = p }

infix 20 ◌gives◌
abbrev ◌gives◌ : List ℕ → Second → Type 0
run gives s = busiest run ≡ s

pub no_event : [] gives found 0 0
no_event = refl

pub one_event : (4294967295 ∷ []) gives found 1 0
one_event = refl

-- a span ends before t + 1,000
pub exactly : ((5 ∷ 1005 ∷ []) gives found 1 0) × ((5 ∷ 1004 ∷ []) gives found 2 0) × ((0 ∷ 1 ∷ 1000 ∷ 1000 ∷ []) gives found 3 1)
exactly = (refl, refl, refl)

-- of two spans with as many events the first is given
pub ties : ((0 ∷ 10 ∷ 5000 ∷ 5010 ∷ []) gives found 2 0) × ((0 ∷ 5000 ∷ 5010 ∷ 9000 ∷ 9010 ∷ []) gives found 2 1)
ties = (refl, refl)

-- equal times count separately, and start their span at the first of them
pub equal_times : ((7 ∷ 7 ∷ 7 ∷ []) gives found 3 0) × ((0 ∷ 2000 ∷ 2000 ∷ 2999 ∷ 3000 ∷ []) gives found 3 1)
equal_times = (refl, refl)

-- t + 1,000 passes the largest time
pub late : ((4294966295 ∷ 4294966296 ∷ 4294967295 ∷ 4294967295 ∷ []) gives found 3 1)
late = refl

-- a time below the one before it
pub falls : ((3 ∷ 1 ∷ []) gives refused 27) × ((0 ∷ 5 ∷ 5 ∷ 4 ∷ 9 ∷ []) gives refused 27)
falls = (refl, refl)

-- 4,097 events, in order or not: 26 is asked first
pub long : (replicate 4097 7 gives refused 26) × ((9 ∷ replicate 4096 7) gives refused 26)
long = (refl, refl)
