-- What stands at each place beside the deadlines, and what a store to it leaves: there are four rows.
use Rattle.std.proofs.Common.{ℕ, zero, suc, ◌+◌, ◌<◌, List, [], ◌∷◌, ◌++◌, ◌≡◌, refl, sym, ap, ◌∙◌, arith, length, get_or, set, length-append}
use Rattle.deadlines.specs.Deadlines.{at}
use Rattle.plan.specs.Behind.{ROW, READ-END, WRITE-END, FREE, EVENTS}
use Rattle.soonest.specs.declared.State.{State}
use Rattle.soonest.specs.Standing.{standing}

-- what holds of any four rows holds of these
of-four : (P : List ℕ → Type 0) → ((w x y z : ℕ) → P (w ∷ x ∷ y ∷ z ∷ [])) → (rows : List ℕ) → length rows ≡ 4 → P rows
of-four P f [] e = absurd (omega (arith, e))
of-four P f (w ∷ []) e = absurd (omega (arith, e))
of-four P f (w ∷ x ∷ []) e = absurd (omega (arith, e))
of-four P f (w ∷ x ∷ y ∷ []) e = absurd (omega (arith, e))
of-four P f (w ∷ x ∷ y ∷ z ∷ []) e = f w x y z
of-four P f (v ∷ w ∷ x ∷ y ∷ z ∷ l) e = absurd (omega (arith, e))

get-front : (l m : List ℕ) (i : ℕ) → i < length l → get_or (l ++ m) i 0 ≡ get_or l i 0
get-front [] m i h = absurd (omega (arith, h))
get-front (y ∷ l) m zero h = refl
get-front (y ∷ l) m (suc i) h = get-front l m i (omega (arith, h))

set-front : (l m : List ℕ) (i v : ℕ) → i < length l → set (l ++ m) i v ≡ set l i v ++ m
set-front [] m i v h = absurd (omega (arith, h))
set-front (y ∷ l) m zero v h = refl
set-front (y ∷ l) m (suc i) v h = ap (λ (k : List ℕ). y ∷ k) (set-front l m i v (omega (arith, h)))

module _ (x : State) (four : length x.rows ≡ 4) where
  abbrev behind : List ℕ
  behind = x.read_end ∷ x.write_end ∷ x.free ∷ x.events ∷ []

  pub row-is : (b : ℕ) → b < 4 → at (standing x) (ROW + b) ≡ get_or x.rows b 0
  row-is b l = (let e : ROW + b ≡ b = omega arith in ap (at (standing x)) e) ∙ get-front x.rows behind b (omega (arith, four, l))

  pub read-end-is : at (standing x) READ-END ≡ x.read_end
  read-end-is = of-four (λ l. at (l ++ behind) READ-END ≡ x.read_end) (λ w x y z. refl) x.rows four

  pub write-end-is : at (standing x) WRITE-END ≡ x.write_end
  write-end-is = of-four (λ l. at (l ++ behind) WRITE-END ≡ x.write_end) (λ w x y z. refl) x.rows four

  pub free-is : at (standing x) FREE ≡ x.free
  free-is = of-four (λ l. at (l ++ behind) FREE ≡ x.free) (λ w x y z. refl) x.rows four

  pub events-are : at (standing x) EVENTS ≡ x.events
  events-are = of-four (λ l. at (l ++ behind) EVENTS ≡ x.events) (λ w x y z. refl) x.rows four

  pub row-set : (b row : ℕ) → b < 4 → set x.rows b row ++ behind ≡ set (standing x) (ROW + b) row
  row-set b row l = sym ((let e : ROW + b ≡ b = omega arith in ap (λ (i : ℕ). set (standing x) i row) e) ∙ set-front x.rows behind b row (omega (arith, four, l)))

  pub read-end-set : (t : ℕ) → x.rows ++ t ∷ x.write_end ∷ x.free ∷ x.events ∷ [] ≡ set (standing x) READ-END t
  read-end-set t = of-four (λ l. l ++ t ∷ x.write_end ∷ x.free ∷ x.events ∷ [] ≡ set (l ++ behind) READ-END t) (λ w x y z. refl) x.rows four

  pub write-end-set : (t : ℕ) → x.rows ++ x.read_end ∷ t ∷ x.free ∷ x.events ∷ [] ≡ set (standing x) WRITE-END t
  write-end-set t = of-four (λ l. l ++ x.read_end ∷ t ∷ x.free ∷ x.events ∷ [] ≡ set (l ++ behind) WRITE-END t) (λ w x y z. refl) x.rows four

-- a standing of eight numbers has four rows
pub four-of : (x : State) → length (standing x) ≡ 8 → length x.rows ≡ 4
four-of x e = omega (arith, e, length-append x.rows (x.read_end ∷ x.write_end ∷ x.free ∷ x.events ∷ []))
