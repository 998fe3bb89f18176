-- The openings that have ended by pins alone are the reading's, where each ACTIVE finds its bank idle.
use Prim.Native.Nat.{ℕ, suc, ◌-◌}
use mathlib.Core.Bool.{Bool, true, false, cond, true≢false}
use mathlib.Core.List.{List, [], ◌∷◌, ◌++◌}
use mathlib.Core.Path.{◌≡◌, refl, ap, ◌∙◌, sym, subst}
use native.Mathlib.Omega.{arith}
use Rattle.reading.specs.Settings.{Settings}
use Rattle.reading.specs.Capture.{Event}
use Rattle.reading.specs.Commands.{command_of}
use Rattle.reading.specs.Part.{Part, start, step}
use Rattle.reading.specs.Verdict.{clean, verdict_of}
use Rattle.reading.specs.Openings.{Opening, opens, last_open, openings_from, openings_of, opening_words, index_of}
use Rattle.reading.proofs.Ordered.{FindsIdle}
use Rattle.reading.proofs.CleanRows.{finds-idle}
use Rattle.pins.specs.Pins.{address_of}
use Rattle.rows.specs.Walks.{Standing, idle, open_row, opens_bank, closes_bank, stood_of, ended, ended_by, opened_from, opened_by, opened_by_all}
use Rattle.rows.proofs.AsStood.{As, opens-is, stands_on}

module _ (s : Settings) (b : ℕ) where
  -- from a part in which the bank is idle; and from one in which it stands open, after event i
  record Same (es : List Event) : Type 0 where
    idle : (p : Part) (i : ℕ) → FindsIdle s b p es → As idle (p.banks b) → opened_from b idle i es ≡ openings_from s b p i es
    held : (p : Part) (i row first : ℕ) → FindsIdle s b p es → As (open_row row first) (p.banks b) →
        opened_from b (open_row row first) (suc i) es ≡ record { row = row; first = first; last = last_open s b p i es } ∷ openings_from s b p (suc i) es

  module _ (e : Event) (es : List Event) (S : Same es) (p : Part) (i : ℕ) (finds : FindsIdle s b p (e ∷ es)) where
    abbrev w : ℕ
    w = e.pins

    abbrev p' : Part
    p' = step s p e

    none-ended : (y : Bool) → cond y (ended idle i) [] ≡ []
    none-ended true = refl
    none-ended false = refl

    abbrev here : Opening
    here = record { row = (p'.banks b).row; first = i; last = last_open s b p' i es }

    abbrev behind : List Opening
    behind = openings_from s b p' (suc i) es

    idle-go : (y z : Bool) → As (cond y (open_row (address_of w) i) (cond z idle idle)) (p'.banks b) →
        opened_from b (cond y (open_row (address_of w) i) (cond z idle idle)) (suc i) es ≡ cond y (here ∷ behind) behind
    idle-go true z k =
        S.held p' i (address_of w) i finds.1 k
        ∙ ap (λ (r : ℕ). record { row = r; first = i; last = last_open s b p' i es } ∷ behind) (sym k.1)
    idle-go false true k = S.idle p' (suc i) finds.1 k
    idle-go false false k = S.idle p' (suc i) finds.1 k

    idle-on : As idle (p.banks b) → opened_from b idle i (e ∷ es) ≡ openings_from s b p i (e ∷ es)
    idle-on a =
        ap (λ (l : List Opening). l ++ opened_from b (stood_of b idle i w) (suc i) es) (none-ended (closes_bank b w))
        ∙ (idle-go (opens_bank b w) (closes_bank b w) (stands_on s b i p e idle a)
        ∙ ap (λ (y : Bool). cond y (here ∷ behind) behind) (sym (opens-is b w)))

    -- the bank stands open, so the event does not open it
    module _ (row first : ℕ) (a : As (open_row row first) (p.banks b)) where
      abbrev x : Standing
      x = open_row row first

      abbrev next : List Opening
      next = openings_from s b p' (suc (suc i)) es

      abbrev until : ℕ
      until = last_open s b p' (suc i) es

      unopened : opens (command_of w) b ≡ false
      unopened = go (opens (command_of w) b) refl
        where
          go : (y : Bool) → opens (command_of w) b ≡ y → y ≡ false
          go true f = absurd (true≢false (sym a.0 ∙ finds.0 f))
          go false f = refl

      held-go : (z l : Bool) → (p'.banks b).opened ≡ l → As (cond z idle x) (p'.banks b) →
          cond z (ended x (suc i)) [] ++ opened_from b (cond z idle x) (suc (suc i)) es ≡ record { row = row; first = first; last = cond l until i } ∷ next
      held-go true true f k = absurd (true≢false (sym f ∙ k))
      held-go true false f k =
          let one : suc i - 1 ≡ i = omega arith in
          λ j. record { row = row; first = first; last = one j } ∷ S.idle p' (suc (suc i)) finds.1 k j
      held-go false true f k = S.held p' (suc i) row first finds.1 k
      held-go false false f k = absurd (true≢false (sym k.0 ∙ f))

      stood-so : stood_of b x (suc i) w ≡ cond (closes_bank b w) idle x
      stood-so = ap (λ (y : Bool). cond y (open_row (address_of w) (suc i)) (cond (closes_bank b w) idle x)) (sym (opens-is b w) ∙ unopened)

      held_on : opened_from b x (suc i) (e ∷ es) ≡ record { row = row; first = first; last = last_open s b p i (e ∷ es) } ∷ openings_from s b p (suc i) (e ∷ es)
      held_on =
          ap (λ (y : Standing). ended_by b x (suc i) w ++ opened_from b y (suc (suc i)) es) stood-so
          ∙ (held-go (closes_bank b w) (p'.banks b).opened refl (subst (λ (y : Standing). As y (p'.banks b)) stood-so (stands_on s b (suc i) p e x a))
          ∙ ap (λ (y : Bool). record { row = row; first = first; last = last_open s b p i (e ∷ es) }
          ∷ cond y (record { row = (p'.banks b).row; first = suc i; last = until } ∷ next) next) (sym unopened))

  same : (es : List Event) → Same es
  same [] =
      record {
        idle = λ p i finds a. refl;
        held = λ p i row first finds a. let one : suc i - 1 ≡ i = omega arith in λ j. record { row = row; first = first; last = one j } ∷ [];
      }
  same (e ∷ es) =
      record {
        idle = λ p i finds a. idle-on e es (same es) p i finds a;
        held = λ p i row first finds a. held_on e es (same es) p i finds row first a;
      }

  pub opened-so : (es : List Event) → verdict_of s es ≡ clean → opened_by b es ≡ openings_of s es b
  unfolding opened_by openings_of
  opened-so es e = (same es).idle (start s) 0 (finds-idle s b es e) refl

pub index-so : (s : Settings) (es : List Event) → verdict_of s es ≡ clean → opening_words (opened_by_all es) ≡ index_of s es
unfolding opened_by_all index_of
index-so s es e = rw (opened-so s 0 es e, opened-so s 1 es e, opened-so s 2 es e, opened-so s 3 es e)
