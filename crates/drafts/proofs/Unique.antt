-- A contract that settles a draft settles what is lent for it.
use Rattle.std.proofs.Common.{ℕ, List, [], ◌∷◌, ◌++◌, ◌≡◌, refl, ap, arith, length, length-append}
use Rattle.plan.specs.Draft.{Draft}
use Rattle.soonest.specs.declared.State.{State}
use Rattle.drafts.specs.Room.{draft}

-- of two lists with as many numbers behind them
split : (l m : List ℕ) (a b c d e f g h : ℕ) → l ++ a ∷ b ∷ c ∷ d ∷ [] ≡ m ++ e ∷ f ∷ g ∷ h ∷ [] → (l ≡ m) × ((a ≡ e) × ((b ≡ f) × ((c ≡ g) × (d ≡ h))))
split [] [] a b c d e f g h p = (refl, (cc, (cc, (cc, cc))))
split [] (y ∷ m) a b c d e f g h p = absurd (omega (arith, ap length p, length-append m (e ∷ f ∷ g ∷ h ∷ [])))
split (x ∷ l) [] a b c d e f g h p = absurd (omega (arith, ap length p, length-append l (a ∷ b ∷ c ∷ d ∷ [])))
split (x ∷ l) (y ∷ m) a b c d e f g h p =
    let q = split l m a b c d e f g h cc in
    let z : x ≡ y = cc in ((λ i. z i ∷ q.0 i), q.1)

pub one-draft : {x y : State} {w v : List ℕ} → draft x w ≡ draft y v → (x ≡ y) × (w ≡ v)
one-draft {x} {y} e =
    let d = ap (λ (z : Draft). z.deadlines) e in
    let p = split x.rows y.rows x.read_end x.write_end x.free x.events y.read_end y.write_end y.free y.events (ap (λ (z : Draft). z.standing) e) in
    ((λ i. record { deadlines = d i; rows = p.0 i; read_end = p.1.0 i; write_end = p.1.1.0 i; free = p.1.1.1.0 i; events = p.1.1.1.1 i }), ap (λ (z : Draft). z.words) e)
