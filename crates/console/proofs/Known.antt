-- What a reader gave and what a writer holds grow piece by piece.
use Rattle.std.proofs.Common.{◌≡◌, ℕ, ◌+◌, List, Option, take, drop, sym, subst}
use Rattle.std.proofs.Math.Seq.{take-add}
use Rattle.std.specs.Io.KnownBytes.{Appends, Consumes}
use Rattle.std.proofs.KnownBytes.{Appends-trans, Consumes-trans}

pub Consumes-more : (a b c : Option (List ℕ)) (xs ys : List ℕ) (f n : ℕ) → take f ys ≡ take f xs
    → Consumes a b (take f xs) → Consumes b c (take n (drop f ys)) → Consumes a c (take (f + n) ys)
Consumes-more a b c xs ys f n front before read =
    subst (Consumes a c) (sym (take-add f n ys)) (Consumes-trans a b c _ _ (subst (Consumes a b) (sym front) before) read)

pub Appends-more : (a b c : Option (List ℕ)) (xs : List ℕ) (f n : ℕ)
    → Appends a b (take f xs) → Appends b c (take n (drop f xs)) → Appends a c (take (f + n) xs)
Appends-more a b c xs f n before more =
    subst (Appends a c) (sym (take-add f n xs)) (Appends-trans a b c _ _ before more)
