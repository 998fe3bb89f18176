-- What is seen at a position, and behind the last; and the events that are left from there on.
use Rattle.std.proofs.Common.{◌≡◌, ℕ, ◌+◌, ◌-◌, ◌<◌, ◌≤◌, Bool, true, false, cond, ltb, List, [], ◌∷◌, refl, arith, add-one, lt-ltb, le-ltb, ltb-true, ltb-false}
use Rattle.std.specs.Prelude.{Option, Some, None}
use Rattle.words.proofs.Search.{one_less, none_left}
use Rattle.reading.specs.Capture.{event_count, event_bytes, event_at}
use Rattle.browser.specs.declared.Event.{Event}
use Rattle.browser.specs.Browsed.{event_seen, seen_among, seen_at, seen_from}

module _ (bytes : List ℕ) (n i : ℕ) where
  pub sees-among : i < n → seen_among bytes n i ≡ Some (event_seen (event_at bytes i))
  unfolding seen_among
  sees-among small = rw (lt-ltb i n small)

  pub sees-none : n ≤ i → seen_among bytes n i ≡ None
  unfolding seen_among
  sees-none over = rw (le-ltb i n over)

  abbrev there : Event
  there = event_seen (event_at bytes i)

  -- where one is seen
  pub within : {e : Event} → Some e ≡ seen_among bytes n i → (i < n) × (e ≡ there)
  unfolding seen_among
  within {e} h = go (ltb i n) refl h
    where
      go : (v : Bool) → ltb i n ≡ v → Some e ≡ cond v (Some there) None → (i < n) × (e ≡ there)
      go true k h = (ltb-true i n k, cc)
      go false k h = let z : ◌≡◌ {A = ℕ} 0 1 = cc in absurd (omega arith)

  pub behind : None ≡ seen_among bytes n i → n ≤ i
  unfolding seen_among
  behind h = go (ltb i n) refl h
    where
      go : (v : Bool) → ltb i n ≡ v → ◌≡◌ {A = Option Event} None (cond v (Some there) None) → n ≤ i
      go true k h = let z : ◌≡◌ {A = ℕ} 0 1 = cc in absurd (omega arith)
      go false k h = ltb-false i n k

  pub none-left : None ≡ seen_among bytes n i → seen_from bytes i (n - i) ≡ []
  unfolding seen_from
  none-left h = rw (none_left n i (behind h))

  pub one-left : {e : Event} → Some e ≡ seen_among bytes n i → seen_from bytes i (n - i) ≡ e ∷ seen_from bytes (i + 1) (n - (i + 1))
  unfolding seen_from
  one-left h = let (l, k) = within h in rw (one_less n i l, add-one i, k)

module _ (capture : List ℕ) (i : ℕ) where
  pub sees-event : i < event_count capture → seen_at capture i ≡ Some (event_seen (event_at (event_bytes capture) i))
  sees-event = sees-among (event_bytes capture) (event_count capture) i

  pub sees-end : event_count capture ≤ i → seen_at capture i ≡ None
  sees-end = sees-none (event_bytes capture) (event_count capture) i
