-- In a clean capture every burst keeps a pair at least: where a write is interrupted, rules 10 and 11 see to it.
use Prim.Native.Nat.{ℕ, zero, suc, ◌+◌, ◌-◌, ◌≤◌, ◌<◌}
use mathlib.Core.Bool.{Bool, true, false, cond, not, ◌&&◌}
use mathlib.Core.List.{List, [], ◌∷◌, map, Memᴰ}
use mathlib.Core.Option.{Option, none, some}
use mathlib.Core.Path.{◌≡◌, refl, sym, ap, ◌∙◌, subst}
use native.Mathlib.Numerals.{add-one}
use native.Mathlib.Omega.{arith}
use lib.Dec.{leb, ltb}
use borrow.Author.Tests.{leb-true, eqb-true}
use Rattle.reading.specs.Search.{find, lesser, implies}
use Rattle.reading.specs.Mode.{mode_word}
use Rattle.reading.specs.Settings.{Settings, settings_of, newer}
use Rattle.reading.specs.Capture.{Event, event_at}
use Rattle.reading.specs.Commands.{READ, WRITE, Command, is, among, command_of}
use Rattle.reading.specs.Bursts.{Burst, whole_end, data_end, rests_from}
use Rattle.reading.specs.Part.{Part, closes, last_write, last_bank_write, is_that, cuts, interrupts, interrupted_to, at_most, cut_by, burst_given, step}
use Rattle.reading.specs.Rules.{after_write, rule10, rule11, broken_by}
use Rattle.reading.proofs.Meaning.{none-broken}
use Rattle.reading.proofs.Cuts.{All, nil, cons}
use Rattle.reading.proofs.Alone.{standing, standing-pairs, stands_after, cut_alone}
use Rattle.reading.proofs.Laws.{both, every-bank}
use Rattle.capture.proofs.Rising.{Rises}
use Rattle.bridge.proofs.Bursts.{Given, find-all}
use Rattle.bridge.proofs.Next.{Sound}
use Rattle.judge.specs.Meaning.{part_at}
use Rattle.judge.proofs.Events.{part-next}
use Rattle.pins.specs.Pins.{gives}
use Rattle.pins.proofs.Commands.{gives-is}
use Rattle.beats.specs.Kept.{events_from, kept_of}
use Rattle.beats.proofs.Events.{next-event, no-event, rise-behind}
use Rattle.beats.proofs.Cut.{cut_by_all}
use Rattle.beats.proofs.Ahead.{left_of, kept-in-the-end}
use Rattle.cells.specs.Meaning.{Listable, KeepsPair, Clean}
use Rattle.cells.proofs.Alone.{fitting, told, sounds}
use Rattle.cells.proofs.Modes.{some_pair, valid-at}

abbrev HasPair : Burst → Type 0
HasPair x = 1 ≤ x.n

least : (n most : ℕ) → 1 ≤ n → 1 ≤ most → 1 ≤ lesser n most
least n most l k = go (leb n most)
  where
    go : (v : Bool) → 1 ≤ cond v n most
    go true = l
    go false = k

-- ---- one event

module _ (s : Settings) (p : Part) (t : ℕ) (c : Command) (all : All HasPair p.bursts) where
  -- rules 10 and 11 count from two cycles behind a write at least
  rests : (y : Burst) → HasPair y → y.k + 2 ≤ rests_from s y
  rests y l = go (newer s && not y.auto)
    where
      go : (v : Bool) → y.k + 2 ≤ cond v (y.k + 2) (data_end y)
      go true = omega arith
      go false = omega arith

  waited : (q : Burst → Bool) (wait : ℕ) (x : Burst) → after_write s wait (find q p.bursts) t ≡ true → is_that (find q p.bursts) x ≡ true →
      x.k + 2 + wait ≤ t
  waited q wait x = go (find q p.bursts) refl
    where
      go : (o : Option Burst) → find q p.bursts ≡ o → after_write s wait o t ≡ true → is_that o x ≡ true → x.k + 2 + wait ≤ t
      go none e a i = let z : ◌≡◌ {A = ℕ} 0 1 = cc in absurd (omega arith)
      go (some y) e a i = omega (arith, rests y (find-all q all e), leb-true (rests_from s y + wait) t a, eqb-true y.k x.k i)

  module _ (tenth : rule10 s p t c ≡ true) (eleventh : rule11 s p t c ≡ true) (x : Burst) (lb : x.bank < 4) where
    closed : closes c x.bank (p.banks x.bank) ≡ true → after_write s s.t_wr (last_bank_write p x.bank) t ≡ true
    closed e =
        ap (λ (v : Bool). implies v (after_write s s.t_wr (last_bank_write p x.bank) t)) (sym e)
        ∙ every-bank (λ b. implies (closes c b (p.banks b)) (after_write s s.t_wr (last_bank_write p b) t)) tenth x.bank lb

    interrupted-leaves : interrupts s p c x ≡ true → 1 ≤ interrupted_to s t c x
    interrupted-leaves e = go (is READ c) eleventh (both (newer s && x.writes) _ e).1
      where
        go : (r : Bool) → implies r (after_write s s.t_wtr (last_write p) t) ≡ true →
            cond r (is_that (last_write p) x) (closes c x.bank (p.banks x.bank) && is_that (last_bank_write p x.bank) x) ≡ true →
            1 ≤ t - (x.k + 1 + cond r s.t_wtr s.t_wr)
        go true a i = omega (arith, waited (λ y. y.writes) s.t_wtr x a i)
        go false a i =
            let two = both (closes c x.bank (p.banks x.bank)) _ i in
            omega (arith, waited _ s.t_wr x (closed two.0) two.1)

    cut-leaves : x.k < t → HasPair x → HasPair (cut_by s p t c x)
    cut-leaves l n = go x.auto (cuts p c x && ltb t (whole_end x)) (interrupts s p c x) interrupted-leaves
      where
        go : (a b i : Bool) → (i ≡ true → 1 ≤ interrupted_to s t c x) →
            1 ≤ at_most (cond a none (cond b (some (t - x.k)) (cond i (some (interrupted_to s t c x)) none))) x.n
        go true b i f = n
        go false true i f = least x.n (t - x.k) n (omega arith)
        go false false true f = least x.n (interrupted_to s t c x) n (f refl)
        go false false false f = n

-- ---- an event that breaks no rule

apart : {P : Burst → Type 0} (v : Bool) {x : Burst} {xs : List Burst} → All P (cond v (x ∷ xs) xs) → (v ≡ true → P x) × All P xs
apart true (cons q qs) = (λ e. q, qs)
apart false qs = (λ e. let z : ◌≡◌ {A = ℕ} 0 1 = cc in absurd (omega arith), qs)

together : (v : Bool) (x : Burst) {xs : List Burst} → HasPair x → All HasPair xs → All HasPair (cond v (x ∷ xs) xs)
together true x q qs = cons q qs
together false x q qs = qs

skip : {x y : ℕ} {xs : List ℕ} → Memᴰ x xs → Memᴰ x (y ∷ xs)
skip m = Memᴰ.tail m

module _ (s : Settings) (p : Part) (from : ℕ) (e : Event) (l : from ≤ e.cycle) (g : Sound from p) (kept : broken_by s p e ≡ none) (v : mode_word p.mode ≡ true)
    (all : All HasPair p.bursts) where
  abbrev t : ℕ
  t = e.cycle

  abbrev c : Command
  c = command_of e.pins

  tenth : rule10 s p t c ≡ true
  tenth = (none-broken s p e).0 kept 10 (skip (skip (skip (skip (skip (skip (skip (skip (Memᴰ.head refl)))))))))

  eleventh : rule11 s p t c ≡ true
  eleventh = (none-broken s p e).0 kept 11 (skip (skip (skip (skip (skip (skip (skip (skip (skip (Memᴰ.head refl))))))))))

  all-cut : {xs : List Burst} → All (Given from) xs → All HasPair xs → All HasPair (map (cut_by s p t c) xs)
  all-cut nil nil = nil
  all-cut (cons {x = x} q qs) (cons n ns) =
      cons (cut-leaves s p t c all tenth eleventh x q.bank (omega (arith, q.before)) n) (all-cut qs ns)

  -- of the part behind the event
  all-next : All HasPair (step s p e).bursts
  all-next = together (among (READ ∷ WRITE ∷ []) c) (burst_given s p t c) (some_pair p.mode v) (all-cut g.bursts all)

  module _ (es : List Event) where
    -- a burst that the event cuts, as the events behind it leave it
    before : {xs : List Burst} → All (λ x. standing (step s p e) x ≡ stands_after c x.bank (standing p x)) xs →
        All (λ y. HasPair (left_of s (step s p e) es y)) (map (λ x. cut_alone s (standing p x) t c x) xs) → All (λ x. HasPair (left_of s p (e ∷ es) x)) xs
    before nil nil = nil
    before (cons {x = y} q qs) (cons n ns) =
        let cut = cut_alone s (standing p y) t c y in
        cons (subst HasPair (λ i. cut_by_all s es ((standing-pairs (step s p e) cut.n y ∙ q) i) cut) n) (before qs ns)

    one-keeps : Rises (suc e.cycle) es → All (λ y. HasPair (left_of s (step s p e) es y)) (step s p e).bursts →
        All (λ x. HasPair (left_of s p (e ∷ es) x)) p.bursts × (gives e.pins ≡ true → 1 ≤ kept_of s p.mode e es)
    one-keeps r n =
        let u = told s p from e l g kept in
        let two = apart (among (READ ∷ WRITE ∷ []) c) n in (
          before u.stands (subst (All (λ y. HasPair (left_of s (step s p e) es y))) u.cut two.1),
          λ m. subst HasPair (kept-in-the-end s p e es r m u) (two.0 (gives-is e.pins ∙ m)),
        )

-- ---- all events of a clean capture

module _ (settings bytes : List ℕ) (n : ℕ) (z : Listable settings bytes n) (k : Clean (settings_of settings) bytes n) where
  abbrev s : Settings
  s = settings_of settings

  abbrev p : ℕ → Part
  p i = part_at s bytes i

  -- every burst has one so far
  all_have : (i : ℕ) → i ≤ n → All HasPair (p i).bursts
  all_have zero l = nil
  all_have (suc i) l =
      let x = sounds settings bytes n z k i (omega arith) in
      subst (λ (q : Part). All HasPair q.bursts) (sym (part-next s bytes i) ∙ ap p (add-one i))
      (all-next s (p i) x.from (event_at bytes i) x.above x.sound x.kept (valid-at settings bytes n z k i (omega arith)) (all_have i (omega arith)))

  abbrev Left : Part → List Event → Type 0
  Left q es = All (λ x. HasPair (left_of s q es x)) q.bursts

  one : (i : ℕ) → i < n → Left (p (i + 1)) (events_from bytes n (i + 1)) →
      Left (p i) (event_at bytes i ∷ events_from bytes n (i + 1)) × KeepsPair s bytes n i (p i).mode
  one i l later =
      let x = sounds settings bytes n z k i l in
      one-keeps s (p i) x.from (event_at bytes i) x.above x.sound x.kept (valid-at settings bytes n z k i (omega arith)) (all_have i (omega arith))
      (events_from bytes n (i + 1)) (rise-behind bytes n (fitting settings bytes n z) i l)
      (subst (λ (q : Part). Left q (events_from bytes n (i + 1))) (part-next s bytes i) later)

  -- and in the end
  behind : (left i : ℕ) → i + left ≡ n → Left (p i) (events_from bytes n i)
  behind zero i e = subst (Left (p i)) (sym (no-event bytes n i (omega arith))) (all_have i (omega arith))
  behind (suc left) i e =
      let l : i < n = omega arith in
      subst (Left (p i)) (sym (next-event bytes n i l)) (one i l (behind left (i + 1) (omega arith))).0

  each_keeps : (i : ℕ) → i < n → KeepsPair s bytes n i (p i).mode
  each_keeps i l = (one i l (behind (n - (i + 1)) (i + 1) (omega arith))).1

  pub pair-kept : (i : ℕ) → i < n → {mode : ℕ} → mode ≡ (p i).mode → KeepsPair s bytes n i mode
  pair-kept i l e = subst (KeepsPair s bytes n i) (sym e) (each_keeps i l)
