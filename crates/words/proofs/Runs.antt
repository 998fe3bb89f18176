-- Runs of stores: `sets l i vs` stores vs from i on. It has no side condition, so runs compose freely.
use Prim.Native.Nat.{ℕ, zero, suc, ◌+◌, ◌≤◌, ◌<◌}
use native.Mathlib.Nat.{add-zero, zero-add, add-suc, suc-add}
use native.Mathlib.Omega.{arith}
use mathlib.Core.Path.{◌≡◌, refl, sym, ap, ◌∙◌}
use mathlib.Core.List.{List, [], ◌∷◌, ◌++◌}
use borrow.Rule.Slice.PartMut.{put_mid}
use lib.ListN.{length, set, get_or, take, drop, length-set}
use Rattle.std.proofs.lemmas.List.{append_assoc}
use lib.Seq.{sets, sets-eq, drop-drop, set_comm, get_or-set_same, get_or-set_other}

next_place : (i n : ℕ) → i + suc n ≡ suc i + n
next_place i n = add-suc i n ∙ sym (suc-add i n)

-- a run behind a run
pub sets-append : (l : List ℕ) (i : ℕ) (vs ws : List ℕ) → sets (sets l i vs) (i + length vs) ws ≡ sets l i (vs ++ ws)
sets-append l i [] ws = ap (λ (k : ℕ). sets l k ws) (add-zero i)
sets-append l i (v ∷ vs) ws =
    ap (λ (k : ℕ). sets (sets (set l i v) (suc i) vs) k ws) (next_place i (length vs)) ∙ sets-append (set l i v) (suc i) vs ws

-- a store before a run passes it by
pub set-sets : (l : List ℕ) (i k v : ℕ) (ws : List ℕ) → i < k → set (sets l k ws) i v ≡ sets (set l i v) k ws
set-sets l i k v [] h = refl
set-sets l i k v (w ∷ ws) h =
    set-sets (set l k w) i (suc k) v ws (omega arith)
    ∙ ap (λ (m : List ℕ). sets m (suc k) ws) (set_comm l k i w v (omega arith))

-- a run in front of a run
pub sets-front : (l : List ℕ) (i : ℕ) (vs ws : List ℕ) → sets (sets l (i + length vs) ws) i vs ≡ sets l i (vs ++ ws)
sets-front l i [] ws = ap (λ (k : ℕ). sets l k ws) (add-zero i)
sets-front l i (v ∷ vs) ws =
    ap (λ (m : List ℕ). sets m (suc i) vs) (set-sets l i (i + suc (length vs)) v ws (omega arith))
    ∙ ap (λ (k : ℕ). sets (sets (set l i v) k ws) (suc i) vs) (next_place i (length vs))
    ∙ sets-front (set l i v) (suc i) vs ws

-- what is read below a run, above it and within it
pub get_d-sets-below : (vs l : List ℕ) (i j : ℕ) → j < i → get_or (sets l i vs) j 0 ≡ get_or l j 0
get_d-sets-below [] l i j h = refl
get_d-sets-below (v ∷ vs) l i j h =
    get_d-sets-below vs (set l i v) (suc i) j (omega arith) ∙ get_or-set_other l i j v 0 (omega arith)

pub get_d-sets-above : (vs l : List ℕ) (i j : ℕ) → i + length vs ≤ j → get_or (sets l i vs) j 0 ≡ get_or l j 0
get_d-sets-above [] l i j h = refl
get_d-sets-above (v ∷ vs) l i j h =
    get_d-sets-above vs (set l i v) (suc i) j (omega arith) ∙ get_or-set_other l i j v 0 (omega arith)

pub get_d-sets-in : (vs l : List ℕ) (i j : ℕ) → j < length vs → i + length vs ≤ length l → get_or (sets l i vs) (i + j) 0 ≡ get_or vs j 0
get_d-sets-in [] l i j h f = omega arith
get_d-sets-in (v ∷ vs) l i zero h f =
    ap (λ (k : ℕ). get_or (sets (set l i v) (suc i) vs) k 0) (add-zero i)
    ∙ get_d-sets-below vs (set l i v) (suc i) i (omega arith)
    ∙ get_or-set_same l i v 0 (omega arith)
get_d-sets-in (v ∷ vs) l i (suc j) h f =
    ap (λ (k : ℕ). get_or (sets (set l i v) (suc i) vs) k 0) (next_place i j)
    ∙ get_d-sets-in vs (set l i v) (suc i) j (omega arith) (simp length-set (omega arith))

-- a part of a slice that is written at once is a run
pub part-sets : (l : List ℕ) (i k : ℕ) (vs : List ℕ) → length vs ≡ k → i + k ≤ length l → put_mid i k l vs ≡ sets l i vs
part-sets l i k vs e h =
    ap (λ (m : List ℕ). take i l ++ (vs ++ m)) (drop-drop k i l ∙ ap (λ (n : ℕ). drop (i + n) l) (sym e))
    ∙ sym (append_assoc (take i l) vs _) ∙ sym (sets-eq vs l i (omega arith))

-- behind the last there is nothing
pub none-behind : {A : Type 0} (l : List A) (i : ℕ) → length l ≤ i → drop i l ≡ []
none-behind [] zero h = refl
none-behind [] (suc i) h = refl
none-behind (x ∷ l) zero h = absurd (omega arith)
none-behind (x ∷ l) (suc i) h = none-behind l i (omega arith)

-- a run from the front on
pub front : (vs l : List ℕ) → length vs ≤ length l → sets l 0 vs ≡ vs ++ drop (length vs) l
front vs l h = sets-eq vs l 0 (omega arith) ∙ ap (λ (k : ℕ). vs ++ drop k l) (zero-add (length vs))
