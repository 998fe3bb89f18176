-- What a search found is told by its place, and what is held of an accepted capture by its bytes.
use Prim.Native.Nat.{ℕ}
use mathlib.Core.List.{List, []}
use mathlib.Core.Option.{Option, none, some}
use mathlib.Core.Path.{◌≡◌, refl, sym, ap, ◌∙◌}
use Rattle.std.specs.Prelude as std
use Rattle.std.specs.Prelude.{Some, None, Result, Ok, Err, IfOk}
use Rattle.reading.specs.Answers.{Answer, refused, answered}
use Rattle.words.specs.Found.{place_of}
use Rattle.refusal.specs.declared.Refusal.{Refusal}
use Rattle.refusal.specs.Refusal.{told, passed}
use Rattle.capture.specs.declared.held.Opened.{Opened}
use Rattle.capture.specs.Holding.{Holds}

pub found-one : (x y : std.Option ℕ) → place_of x ≡ place_of y → x ≡ y
found-one x y h = sym (back x) ∙ ap from h ∙ back y
  where
    from : Option ℕ → std.Option ℕ
    from none = None
    from (some i) = Some i

    back : (x : std.Option ℕ) → from (place_of x) ≡ x
    back None = refl
    back (Some i) = refl

-- ---- what is held

pub record Seen : Type 0 where
  pub settings : List ℕ
  pub bytes : List ℕ
  pub count : ℕ

abbrev pub held : Opened → Seen
held o = record { settings = o.settings; bytes = o.events.bytes.now; count = o.events.count }

abbrev pub seen : Result Opened Refusal → Answer Seen
seen r = told held r

-- a refusal tells nothing else
with-nothing : {A : Type 0} → A → Answer (Unit {0}) → Answer A
with-nothing y (refused number place) = refused number place
with-nothing y (answered u) = answered y

pub held-one : (capture : List ℕ) (o p : Opened) → Holds capture o → Holds capture p → held o ≡ held p
held-one capture o p h k =
    λ i. record {
      settings = (h.settings-are ∙ sym k.settings-are) i;
      bytes = (h.bytes-are ∙ sym k.bytes-are) i;
      count = (h.count-is ∙ sym k.count-is) i;
    }

module _ (capture : List ℕ) (x : Answer (Unit {0})) where
  pub seen-one : (r q : Result Opened Refusal) → passed r ≡ x → IfOk r (Holds capture) → passed q ≡ x → IfOk q (Holds capture) → seen r ≡ seen q
  unfolding with-nothing
  seen-one (Ok o) (Ok p) a h b k = ap answered (held-one capture o p h k)
  seen-one (Ok o) (Err s) a h b k = ap (with-nothing (held o)) (a ∙ sym b)
  seen-one (Err s) (Ok o) a h b k = ap (with-nothing (held o)) (a ∙ sym b)
  seen-one (Err s) (Err t) a h b k = ap (with-nothing (record { settings = []; bytes = []; count = 0 })) (a ∙ sym b)
