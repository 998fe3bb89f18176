-- Kept pairs: a cut never raises them, and a burst with auto precharge keeps them all.
use Prim.Native.Nat.{ℕ, ◌+◌, ◌-◌, ◌≤◌}
use mathlib.Core.Bool.{Bool, true, false, cond, ◌&&◌, ◌||◌, and-false}
use mathlib.Core.List.{List, [], ◌∷◌, map, reverse_aux}
use mathlib.Core.Option.{Option, none, some}
use mathlib.Core.Path.{◌≡◌, refl, ap, ◌∙◌}
use native.Mathlib.Nat.{le_refl}
use native.Mathlib.Omega.{arith}
use lib.Dec.{ltb}
use borrow.Author.Tests.{le-leb}
use Rattle.reading.specs.Mode.{h}
use Rattle.reading.specs.Settings.{Settings, newer}
use Rattle.reading.specs.Capture.{Event}
use Rattle.reading.specs.Commands.{Command, READ, WRITE, BURST-TERMINATE, among, command_of}
use Rattle.reading.specs.Bursts.{Burst, with_pairs, whole_end}
use Rattle.reading.specs.Part.{Part, start, closes, cut_pairs, at_most, cut_by, burst_given, step, run}
use Rattle.reading.specs.Cells.{bursts_of}
use Rattle.reading.proofs.Laws.{lesser-first}

-- ---- one burst, one event

-- pairs that have all gone by are not lost
pub none_left : (k n t : ℕ) (b : Bool) → k + n ≤ t → at_most (cond b (some (t - k)) none) n ≡ n
none_left k n t true l = rw (le-leb n (t - k) (omega arith))
none_left k n t false l = refl

module _ (s : Settings) (p : Part) (t : ℕ) (c : Command) (x : Burst) where
  pub cut-lowers : (cut_by s p t c x).n ≤ x.n
  cut-lowers = go (cut_pairs s p t c x)
    where
      go : (o : Option ℕ) → at_most o x.n ≤ x.n
      go none = le_refl x.n
      go (some most) = lesser-first x.n most

  pub auto-uncut : x.auto ≡ true → cut_by s p t c x ≡ x
  auto-uncut a = rw a

  -- a read that keeps no more loses none
  pub spent-uncut : x.writes ≡ false → x.auto ≡ false → x.k + x.n ≤ t → cut_by s p t c x ≡ x
  spent-uncut w a l =
      let cut = among (READ ∷ BURST-TERMINATE ∷ []) c || closes c x.bank (p.banks x.bank) in
      ap (λ (n : ℕ). with_pairs n x) (rw (w, a, and-false (newer s)) (none_left x.k x.n t (cut && ltb t (whole_end x)) l))

-- ---- all bursts of a list of events

-- what holds of each element of a list
pub data All {A : Type 0} (P : A → Type 0) : List A → Type 0 where
  nil : All P []
  cons : {x : A} {xs : List A} → P x → All P xs → All P (x ∷ xs)

pub all_map : {A B : Type 0} {P : A → Type 0} {Q : B → Type 0} (f : A → B) → ((x : A) → P x → Q (f x)) → {xs : List A} → All P xs → All Q (map f xs)
all_map f g nil = nil
all_map f g (cons {x} p ps) = cons (g x p) (all_map f g ps)

pub all-map₂ : {A B : Type 0} {P Q : A → Type 0} {R : B → Type 0} (f : A → B) → ((x : A) → P x → Q x → R (f x)) →
    {xs : List A} → All P xs → All Q xs → All R (map f xs)
all-map₂ f g nil nil = nil
all-map₂ f g (cons {x} p ps) (cons q qs) = cons (g x p q) (all-map₂ f g ps qs)

all-onto : {A : Type 0} {P : A → Type 0} {xs ys : List A} → All P xs → All P ys → All P (reverse_aux xs ys)
all-onto nil qs = qs
all-onto (cons p ps) qs = all-onto ps (cons p qs)

-- at most h pairs are kept, and with auto precharge just h
pub record Whole (x : Burst) : Type 0 where
  pub most : x.n ≤ h x.mode
  pub auto : x.auto ≡ true → x.n ≡ h x.mode

cut-whole : (s : Settings) (p : Part) (t : ℕ) (c : Command) (x : Burst) → Whole x → Whole (cut_by s p t c x)
cut-whole s p t c x w =
    record {
      most = omega (arith, cut-lowers s p t c x, w.most);
      auto = λ a. ap (λ (y : Burst). y.n) (auto-uncut s p t c x a) ∙ w.auto a;
    }

run-whole : (s : Settings) (p : Part) (es : List Event) → All Whole p.bursts → All Whole (run s p es).bursts
run-whole s p [] w = w
run-whole s p (e ∷ es) w = run-whole s (step s p e) es (go (among (READ ∷ WRITE ∷ []) c))
  where
    c : Command
    c = command_of e.pins

    cut : All Whole (map (cut_by s p e.cycle c) p.bursts)
    cut = all_map (cut_by s p e.cycle c) (cut-whole s p e.cycle c) w

    go : (b : Bool) →
        All Whole
        (cond b (burst_given s p e.cycle c ∷ map (cut_by s p e.cycle c) p.bursts) (map (cut_by s p e.cycle c) p.bursts))
    go true = cons (record { most = le_refl (h p.mode); auto = λ a. refl }) cut
    go false = cut

-- every burst of a capture keeps at most its h pairs; one with auto precharge keeps them all
pub bursts-whole : (s : Settings) (es : List Event) → All Whole (bursts_of s es)
unfolding bursts_of
bursts-whole s es = all-onto (run-whole s (start s) es nil) nil
