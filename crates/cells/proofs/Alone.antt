-- In a clean capture every event cuts what its command cuts by itself, and a write stands from its own event on, so looking
-- ahead needs no part.
use Prim.Native.Nat.{ℕ, zero, suc, ◌+◌, ◌≤◌, ◌<◌}
use mathlib.Core.Bool.{true}
use mathlib.Core.List.{List, Memᴰ}
use mathlib.Core.Option.{none}
use mathlib.Core.Path.{◌≡◌, refl, sym, ◌∙◌, subst}
use native.Mathlib.Nat.{zero-add}
use native.Mathlib.Omega.{arith}
use lib.Dec.{leb}
use Rattle.reading.specs.Search.{ever}
use Rattle.reading.specs.Settings.{Settings, settings_of}
use Rattle.reading.specs.Capture.{Event, event_at}
use Rattle.reading.specs.Commands.{Command, command_of}
use Rattle.reading.specs.Bursts.{Burst}
use Rattle.reading.specs.Part.{Part, start, step}
use Rattle.reading.specs.Rules.{rule3, broken_by}
use Rattle.reading.specs.Verdict.{Verdict, clean, broken, verdict_of}
use Rattle.reading.specs.Answers.{not_clean}
use Rattle.reading.proofs.Meaning.{none-broken}
use Rattle.reading.proofs.Cuts.{All, nil, cons}
use Rattle.reading.proofs.Alone.{standing, stands_after, Past, standing-after, given-stands}
use Rattle.pins.proofs.Commands.{write-is}
use Rattle.bridge.proofs.Bursts.{Given}
use Rattle.bridge.proofs.Next.{Sound, open_by}
use Rattle.bridge.proofs.Kept.{same-cuts}
use Rattle.judge.specs.Meaning.{events_in, part_at}
use Rattle.judge.proofs.Events.{part-next}
use Rattle.judge.proofs.Sounds.{Sounds, clean-sound}
use Rattle.beats.specs.Kept.{events_from}
use Rattle.beats.proofs.Events.{Fit, next-event, no-event}
use Rattle.beats.proofs.Ahead.{Told, Alone}
use Rattle.cells.specs.Meaning.{Listable, Clean}

is-clean : (x : Verdict) → not_clean x ≡ none → x ≡ clean
is-clean clean e = refl
is-clean (broken r i t) e = let z : ◌≡◌ {A = ℕ} 0 1 = cc in absurd (omega arith)

-- what is known of an event that breaks no rule
module _ (s : Settings) (p : Part) (from : ℕ) (e : Event) (l : from ≤ e.cycle) (g : Sound from p) (kept : broken_by s p e ≡ none) where
  abbrev t : ℕ
  t = e.cycle

  abbrev c : Command
  c = command_of e.pins

  -- every burst was given before, and every row was opened before
  past : {xs : List Burst} → All (Given from) xs → All (Past s p t) xs
  past nil = nil
  past (cons {x = x} q qs) = cons {x = x} (record { given = omega (arith, q.before) }) (past qs)

  opened-before : (b : ℕ) → ever (p.banks b).last_active (λ a. leb a t) ≡ true
  opened-before b = open_by s p from t l g (p.banks b).last_active (g.banks b)

  go_on : {xs : List Burst} → All (Given from) xs → All (λ x. standing (step s p e) x ≡ stands_after c x.bank (standing p x)) xs
  go_on nil = nil
  go_on (cons {x = x} q qs) =
      cons (standing-after s p t x (omega (arith, q.before)) (past g.bursts) (opened-before x.bank) c)
      (go_on qs)

  third : rule3 s p t c ≡ true
  third = (none-broken s p e).0 kept 3 (Memᴰ.tail (Memᴰ.tail (Memᴰ.head refl)))

  pub told : Told s p e
  told =
      record {
        cut = same-cuts s p from t l g c;
        stands = go_on g.bursts;
        given = λ w a. given-stands s p t c a (opened-before c.bank) (write-is e.pins ∙ w) third;
      }

pub fitting : (settings bytes : List ℕ) (n : ℕ) → Listable settings bytes n → Fit bytes n
fitting settings bytes n z = z.fit.events

-- every event of a clean capture
module _ (settings bytes : List ℕ) (n : ℕ) (z : Listable settings bytes n) (k : Clean (settings_of settings) bytes n) where
  abbrev s : Settings
  s = settings_of settings

  pub sounds : (i : ℕ) → i < n → Sounds settings bytes n i
  sounds = clean-sound settings bytes n z.fit (is-clean (verdict_of s (events_in bytes n)) k)

  behind : (left i : ℕ) → i + left ≡ n → Alone s (part_at s bytes i) (events_from bytes n i)
  behind zero i e = subst (Alone s (part_at s bytes i)) (sym (no-event bytes n i (omega arith))) tt
  behind (suc left) i e =
      let l : i < n = omega arith in
      let x = sounds i l in
      let later = subst (λ (p : Part). Alone s p (events_from bytes n (i + 1))) (part-next s bytes i) (behind left (i + 1) (omega arith)) in
      subst (Alone s (part_at s bytes i)) (sym (next-event bytes n i l)) (told s (part_at s bytes i) x.from (event_at bytes i) x.above x.sound x.kept, later)

  pub each-alone : Alone s (start s) (events_from bytes n 0)
  each-alone = behind n 0 (zero-add n)
