-- One turn of `move_down` and of `move_up`: what is left to be moved gives the same.
use Rattle.std.proofs.Common.{◌≡◌, refl, sym, ap, ◌∙◌, List, [], ◌∷◌, ◌++◌, ℕ, suc, ◌+◌, ◌-◌, ◌≤◌, ◌<◌, arith, length, take, drop, get_or, set, length-drop, drop-cons, drop-set-lt, take-suc, get_or-drop, take-add, take_at, drop-drop}
use Rattle.std.proofs.lemmas.List.Edits.{sets, sets-eq}
use Rattle.scanline.specs.Pixels.{part}
use Rattle.scanline.proofs.rows.Runs.{full_part, sets_snoc, part_set_after, sets_append, sets_comm, drop_sets, part_sets_after}

down_step : (s : List ℕ) (dst src k : ℕ) → dst ≤ src → src + suc k ≤ length s
    → sets s dst (part src (suc k) s) ≡ sets (set s dst (get_or s src 0)) (suc dst) (part (suc src) k (set s dst (get_or s src 0)))
down_step s dst src k h l =
    let i : src < length s = omega arith in
    let j : dst < suc src = omega arith in
    rw (drop-cons s src 0 i, drop-set-lt (suc src) s dst (get_or s src 0) j) refl

-- i are moved
pub down_turn : (s : List ℕ) (dst src n i : ℕ) → dst ≤ src → src + n ≤ length s → i < n
    → sets (set s (dst + i) (get_or s (src + i) 0)) (dst + (i + 1)) (part (src + (i + 1)) (n - (i + 1)) (set s (dst + i) (get_or s (src + i) 0)))
    ≡ sets s (dst + i) (part (src + i) (n - i) s)
down_turn s dst src n i h l t =
    let a : dst + (i + 1) ≡ suc (dst + i) = omega arith in
    let b : src + (i + 1) ≡ suc (src + i) = omega arith in
    let e : n - i ≡ suc (n - (i + 1)) = omega arith in
    rw (a, b, e) (sym (down_step s (dst + i) (src + i) (n - (i + 1)) (omega arith) (omega arith)))

-- the last k + 1 are left
pub up_turn : (s : List ℕ) (dst src k : ℕ) → src ≤ dst → dst + suc k ≤ length s
    → sets (set s (dst + k) (get_or s (src + k) 0)) dst (part src k (set s (dst + k) (get_or s (src + k) 0)))
    ≡ sets s dst (part src (suc k) s)
up_turn s dst src k h l =
    let x : ℕ = get_or s (src + k) 0 in
    let n : length (part src k s) ≡ k = full_part s src k (omega arith) in
    let t : part src (suc k) s ≡ part src k s ++ (x ∷ []) =
    take-suc (drop src s) k 0 (rw length-drop (omega arith)) ∙ ap (λ (v : ℕ). part src k s ++ (v ∷ [])) (get_or-drop src s k 0) in
    ap (λ (vs : List ℕ). sets (set s (dst + k) x) dst vs) (part_set_after s src k (dst + k) x (omega arith))
    ∙ sym (ap (λ (vs : List ℕ). sets s dst vs) t
    ∙ sets_snoc s dst (part src k s) x
    ∙ ap (λ (j : ℕ). sets (set s (dst + j) x) dst (part src k s)) n)

-- what a buffer keeps
pub kept_is : (z p k : List ℕ) (n : ℕ) → length z ≡ n → length p ≡ n → k ≡ sets z 0 p → part 0 n k ≡ p
kept_is z p k n ez ep e =
    ap (λ (l : List ℕ). take n l) (e ∙ sets-eq p z 0 (omega arith)) ∙ take_at p (drop (0 + length p) z) n ep

-- Several at once ------------------------------------------------------------------------------------------------------

part_split : (s : List ℕ) (src a b : ℕ) → part src (a + b) s ≡ part src a s ++ part (src + a) b s
part_split s src a b =
    take-add a b (drop src s) ∙ ap (λ (l : List ℕ). part src a s ++ take b l) (drop-drop a src s)

-- the first a, then b
pub down_split : (s : List ℕ) (dst src a b : ℕ) → dst ≤ src → src + (a + b) ≤ length s
    → sets (sets s dst (part src a s)) (dst + a) (part (src + a) b (sets s dst (part src a s))) ≡ sets s dst (part src (a + b) s)
down_split s dst src a b h l =
    let n : length (part src a s) ≡ a = full_part s src a (omega arith) in
    ap (λ (t : List ℕ). sets (sets s dst (part src a s)) (dst + a) (take b t)) (drop_sets s dst (part src a s) (src + a) (omega arith))
    ∙ ap (λ (k : ℕ). sets (sets s dst (part src a s)) (dst + k) (part (src + a) b s)) (sym n)
    ∙ sets_append s dst (part src a s) (part (src + a) b s)
    ∙ ap (λ (t : List ℕ). sets s dst t) (sym (part_split s src a b))

-- the last b, then a
pub up_split : (s : List ℕ) (dst src a b : ℕ) → src ≤ dst → dst + (a + b) ≤ length s
    → sets (sets s (dst + a) (part (src + a) b s)) dst (part src a (sets s (dst + a) (part (src + a) b s))) ≡ sets s dst (part src (a + b) s)
up_split s dst src a b h l =
    let n : length (part src a s) ≡ a = full_part s src a (omega arith) in
    ap (λ (t : List ℕ). sets (sets s (dst + a) (part (src + a) b s)) dst t)
    (part_sets_after s src a (dst + a) (part (src + a) b s) (omega arith))
    ∙ sym (sets_comm s dst (part src a s) (dst + a) (part (src + a) b s) (omega arith))
    ∙ ap (λ (k : ℕ). sets (sets s dst (part src a s)) (dst + k) (part (src + a) b s)) (sym n)
    ∙ sets_append s dst (part src a s) (part (src + a) b s)
    ∙ ap (λ (t : List ℕ). sets s dst t) (sym (part_split s src a b))

-- i are moved, and then k more
pub down_more : (s s' : List ℕ) (dst src n i k : ℕ) → dst ≤ src → src + n ≤ length s → i + k ≤ n
    → s' ≡ sets s (dst + i) (part (src + i) k s)
    → sets s' (dst + (i + k)) (part (src + (i + k)) (n - (i + k)) s') ≡ sets s (dst + i) (part (src + i) (n - i) s)
down_more s s' dst src n i k h l t e =
    let x : dst + (i + k) ≡ dst + i + k = omega arith in
    let y : src + (i + k) ≡ src + i + k = omega arith in
    let z : n - i ≡ k + (n - (i + k)) = omega arith in
    rw (e, x, y, z) (down_split s (dst + i) (src + i) k (n - (i + k)) (omega arith) (omega arith))

-- i are left, and then k fewer
pub up_more : (s s' : List ℕ) (dst src i k : ℕ) → src ≤ dst → dst + i ≤ length s → k ≤ i
    → s' ≡ sets s (dst + (i - k)) (part (src + (i - k)) k s)
    → sets s' dst (part src (i - k) s') ≡ sets s dst (part src i s)
up_more s s' dst src i k h l t e =
    let z : (i - k) + k ≡ i = omega arith in
    ap (λ (x : List ℕ). sets x dst (part src (i - k) x)) e
    ∙ up_split s dst src (i - k) k h (omega arith)
    ∙ ap (λ (j : ℕ). sets s dst (part src j s)) z
