-- The shared argument of demand 3: events whose bursts are those of the requests, in their order, each with all its pairs,
-- replayed are the plain memory, whatever the cells hold and whatever is written. A row policy has to show that its
-- schedules are such.
use Prim.Native.Nat.{ℕ}
use mathlib.Core.List.{List, reverse, reverse_aux, reverse-reverse}
use mathlib.Core.Path.{◌≡◌, subst}
use Rattle.reading.specs.Settings.{Settings}
use Rattle.reading.specs.Capture.{Event}
use Rattle.reading.specs.Part.{start, run}
use Rattle.reading.specs.Cells.{bursts_of}
use Rattle.reading.specs.Memory.{Run, replay, plain}
use Rattle.memory.specs.Serving.{Sized, Serves, Each, nil, cons}
use Rattle.memory.proofs.Play.{serves-plain}
use Rattle.memory.proofs.Part.{Serving}

each-onto : {A B : Type 0} {R : A → B → Type 0} {xs us : List A} {ys vs : List B} → Each R xs ys → Each R us vs →
    Each R (reverse_aux xs us) (reverse_aux ys vs)
each-onto nil done = done
each-onto (cons r rest) done = each-onto rest (cons r done)

module _ (s : Settings) where
  -- in event order
  pub serving-bursts : (qs : List ℕ) (es : List Event) → Serving s (run s (start s) es) (reverse qs) → Each (Serves s) (bursts_of s es) qs
  unfolding bursts_of
  serving-bursts qs es v = subst (λ (l : List ℕ). Each (Serves s) (bursts_of s es) l) (reverse-reverse qs) (each-onto v.bursts nil)

  -- the same words are returned in the same order, as many are taken, and every cell ends the same
  pub bursts-are-plain : Sized s → (qs : List ℕ) (es : List Event) → Each (Serves s) (bursts_of s es) qs → (r : Run) → replay s es r ≡ plain s qs r
  unfolding replay
  bursts-are-plain f qs es v = serves-plain s f v
