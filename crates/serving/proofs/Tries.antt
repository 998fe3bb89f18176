-- The two tries of a request's turn: alone, and behind a refresh.
use Prim.Native.Nat.{ℕ, zero, suc, ◌+◌, ◌≤◌}
use mathlib.Core.Bool.{Bool, true, false, not, ◌||◌}
use mathlib.Core.List.{List, []}
use mathlib.Core.Path.{◌≡◌, refl, sym, ap, ◌∙◌, subst}
use native.Mathlib.Omega.{arith}
use lib.ListN.{length}
use Rattle.std.specs.Prelude.{Ok, Err}
use Rattle.reading.specs.Search.{given}
use Rattle.reading.specs.Settings.{Settings}
use Rattle.plan.specs.Draft.{Draft, requesting, refreshing, timely, from, alone, behind, turned, kept}
use Rattle.plan.proofs.Drafted.{wordless}
use Rattle.soonest.specs.declared.State.{State}
use Rattle.drafts.specs.Room.{Room, draft}
use Rattle.serving.specs.declared.Late.{Late}
use Rattle.serving.specs.Sure.{far, Sure, set_aside}
use Rattle.serving.specs.Means.{means}
use Rattle.serving.proofs.Growing.{request-grows, refresh-grows, room_after, room-again, room_for}

-- the test asks nothing of the words
asked : (s : Settings) (x : State) (w : List ℕ) {y : Draft} → draft x w ≡ y → timely s (draft x []) ≡ timely s y
asked s x w e = sym (wordless s (draft x w) []) ∙ ap (timely s) e

either_true : (sure v : Bool) → (sure || v) ≡ true → (sure ≡ true → v ≡ true) → v ≡ true
either_true true v e f = f refl
either_true false v e f = e

both_false : (sure v : Bool) → (sure || v) ≡ false → (sure ≡ false) × (v ≡ false)
both_false true v e = let z : ◌≡◌ {A = ℕ} 0 1 = cc in absurd (omega arith)
both_false false v e = (refl, e)

module _ (s : Settings) (closed : Bool) (q margin : ℕ) (x₀ : State) (w₀ : List ℕ) where
  abbrev start : Draft
  start = draft x₀ w₀

  -- before a try: nothing was sent, or the request alone was late and a refresh was sent
  pub record Trying (sure : Bool) (x : State) (w : List ℕ) (refreshed : ℕ) : Type 0 where
    pub far-off : sure ≡ far margin x₀
    pub first : refreshed ≡ 0 → draft x w ≡ draft x₀ w₀
    pub late : refreshed ≡ 1 → timely s (alone s closed q (draft x₀ w₀)) ≡ false
    pub second : refreshed ≡ 1 → draft x w ≡ refreshing s (from s (draft x₀ w₀) (alone s closed q (draft x₀ w₀)))
    pub within : refreshed ≤ 1
    pub room : Room x w 3
    pub size : length w ≡ length w₀

  pub begins : Room x₀ w₀ 5 → {sure : Bool} → sure ≡ far margin x₀ → Trying sure x₀ w₀ 0
  begins r e =
      record {
        far-off = e;
        first = λ z. refl;
        late = λ z. absurd (omega arith);
        second = λ z. absurd (omega arith);
        within = omega arith;
        room = room_for 5 3 r (omega arith);
        size = refl;
      }

  module _ (z : Sure s closed q margin x₀ w₀) {sure : Bool} (x : State) {w : List ℕ} (x₁ : State) {w₁ : List ℕ}
      (sent : draft x₁ w₁ ≡ requesting s q closed (draft x w)) {in-time : Bool} (said : in-time ≡ (sure || timely s (draft x₁ []))) where
    alone-is : Trying sure x w 0 → draft x₁ w₁ ≡ alone s closed q start
    alone-is t = sent ∙ ap (requesting s q closed) (t.first refl)

    behind-is : Trying sure x w 1 → draft x₁ w₁ ≡ behind s closed q start
    behind-is t = sent ∙ ap (requesting s q closed) (t.second refl)

    -- what is late is not sure
    not-sure : {n : ℕ} → Trying sure x w n → timely s (alone s closed q start) ≡ false → sure ≡ true → timely s (draft x₁ []) ≡ true
    not-sure t e u =
        let in-time : timely s (alone s closed q start) ≡ true = z.sure (sym t.far-off ∙ u) in
        let n : ◌≡◌ {A = ℕ} 0 1 = cc in absurd (omega arith)

    pub in-time-now : (n : ℕ) → Trying sure x w n → in-time ≡ true → (means (Ok tt) ≡ given 6 (not (kept s closed q start))) × (draft x₁ w₁ ≡ turned s closed q start)
    unfolding kept turned
    in-time-now zero t e =
        let v : timely s (alone s closed q start) ≡ true =
        sym (asked s x₁ w₁ (alone-is t)) ∙ either_true sure _ (sym said ∙ e) (λ u. asked s x₁ w₁ (alone-is t) ∙ z.sure (sym t.far-off ∙ u)) in
        rw v (refl, alone-is t)
    in-time-now (suc zero) t e =
        let v : timely s (behind s closed q start) ≡ true = sym (asked s x₁ w₁ (behind-is t)) ∙ either_true sure _ (sym said ∙ e) (not-sure t (t.late refl)) in
        rw (t.late refl, v) (refl, behind-is t)
    in-time-now (suc (suc n)) t e = absurd (omega (arith, t.within))

    pub late-now : {n : ℕ} → Trying sure x w n → n ≡ 1 → in-time ≡ false → (late : Late) →
        (means (Err late) ≡ given 6 (not (kept s closed q start))) × (draft x₁ w₁ ≡ turned s closed q start)
    unfolding kept turned
    late-now t o e late =
        let last : draft x₁ w₁ ≡ behind s closed q start = behind-is (subst (Trying sure x w) o t) in
        let v : timely s (behind s closed q start) ≡ false = sym (asked s x₁ w₁ last) ∙ (both_false sure _ (sym said ∙ e)).1 in
        rw (t.late o, v) (refl, last)

    -- a refresh is sent behind what was set aside, and the request is tried once more
    module _ {n : ℕ} (t : Trying sure x w n) (o : n ≡ 1 → ⊥) (e : in-time ≡ false) (r : Room x₀ w₀ 5)
        (x' : State) {earlier : State} (kept-is : earlier ≡ set_aside sure x' x₀) where
      none_yet : n ≡ 0
      none_yet = omega (arith, t.within, o)

      tried : draft x₁ w₁ ≡ alone s closed q start
      tried = alone-is (subst (Trying sure x w) none_yet t)

      unsure : sure ≡ false
      unsure = (both_false sure _ (sym said ∙ e)).0

      back : earlier ≡ x₀
      back = kept-is ∙ ap (λ (v : Bool). set_aside v x' x₀) unsure

      still-room : Room x₀ w₁ 5
      still-room = room-again x₀ 5 5 r (omega arith) (request-grows s q closed start) x₁ tried

      pub room-behind : Room earlier w₁ 2
      room-behind = rw back (room_for 5 2 still-room (omega arith))

      pub once_more : (x₂ : State) → {w₂ : List ℕ} → draft x₂ w₂ ≡ refreshing s (draft earlier w₁) → Trying sure x₂ w₂ (n + 1)
      once_more x₂ f =
          let ahead = f ∙ (λ i. refreshing s (draft (back i) w₁)) in
          record {
            far-off = t.far-off;
            first = λ z. absurd (omega arith);
            late = λ z. sym (asked s x₁ w₁ tried) ∙ (both_false sure _ (sym said ∙ e)).1;
            second = λ z. ahead ∙ ap (λ (y : Draft). refreshing s (from s start y)) tried;
            within = omega (arith, none_yet);
            room = room_after x₀ 2 3 still-room (refresh-grows s (draft x₀ w₁)) x₂ ahead;
            size =
                ap (λ (y : Draft). length y.words) ahead ∙ (refresh-grows s (draft x₀ w₁)).size
                ∙ ap (λ (y : Draft). length y.words) tried ∙ (request-grows s q closed start).size;
          }
