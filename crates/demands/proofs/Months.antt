-- The month in numbers, for whatever the contracts of `monthly` allow: a line, the totals, the beats, and the cut of the stream.
use Prim.Native.Nat.{ℕ, suc, ◌+◌, ◌≤◌}
use mathlib.Core.Bool.{false, true, cond}
use mathlib.Core.List.{List, [], ◌∷◌, ◌++◌}
use mathlib.Core.Path.{◌≡◌, sym, ap, ◌∙◌}
use native.Mathlib.Omega.{arith}
use lib.Dec.{eqb}
use lib.ListN.{length, take}
use Rattle.reading.specs.Capture.{header_word}
use Rattle.reading.specs.Month as month
use Rattle.reading.specs.Month.{line_of, totals_of, events_told, judged_told, ends_stream, behind, month_from, month_of}
use Rattle.monthly.specs.declared.Line.{Line}
use Rattle.monthly.specs.declared.Totals.{Totals}
use Rattle.monthly.specs.Meaning.{line_means, totals_mean, read_of, left_of}
use Rattle.std.specs.Prelude.{Ok}
use Rattle.monthly.proofs.Unique as unique
use Rattle.monthly.proofs.Sums.{added_all, added-one, added-all}
use Rattle.monthly.proofs.Listed.{beats-listed}
use Rattle.monthly.proofs.Limits.{line_small, within}
use Rattle.monthly.proofs.Cutting as cutting
use Rattle.demands.specs.Allowed.{Lists, TellsLine, AddsUp}

-- One line for every byte string.
pub line-settled : (capture : List ℕ) (r q : Line) → TellsLine capture r → TellsLine capture q → r ≡ q
line-settled capture r q a b = unique.one_line r q (a ∙ sym b)

-- Beats read and written of a clean capture together are as many as its burst list is long.
pub beats-are-listed : (capture out : List ℕ) (r : Line) → TellsLine capture r → (n : ℕ) (left : List ℕ) → Lists capture out (Ok n) left →
    r.read + r.written ≡ n
beats-are-listed capture out r told n left allowed =
    ap (λ (x : month.Line). x.read + x.written) told ∙ beats-listed capture out allowed.0

-- ---- totals

-- Whatever is added, the totals of some lines become those with one line more.
pub totals-go-on : (xs : List month.Line) (t : Totals) (x : Line) (r : Totals) → totals_mean t ≡ totals_of xs → AddsUp t x r →
    totals_mean r ≡ totals_of (xs ++ (line_means x ∷ []))
totals-go-on xs t x r e a = a ∙ ap (λ (u : month.Totals). added-to u) e ∙ added-one xs (line_means x)
  where
    added-to : month.Totals → month.Totals
    added-to u = added_all u (line_means x ∷ [])

-- So the fold over the lines is their sums, in their order.
pub totals-are-sums : (xs : List month.Line) → added_all (totals_of []) xs ≡ totals_of xs
totals-are-sums = added-all

-- No sum of a month comes near what 64 bits hold: 10,000 captures of 8,000 events, 128,000 beats, and cycles of 2,000,000,000 twice.
pub record Bounded (t : month.Totals) : Type 0 where
  pub events : t.events ≤ 80000000
  pub judged : t.judged ≤ 80000000
  pub read : t.read ≤ 1280000000
  pub written : t.written ≤ 1280000000
  pub cycles : t.cycles ≤ 40000000000000

pub no_wrap : (stream : List ℕ) → Bounded (totals_of (month_of stream).lines)
no_wrap stream =
    record {
      events = within (λ x. events_told x.answer) 8000 (λ c. (line_small c).events) 10000 stream;
      judged = within (λ x. judged_told x.answer) 8000 (λ c. (line_small c).judged) 10000 stream;
      read = within (λ x. x.read) 128000 (λ c. omega (arith, (line_small c).beats)) 10000 stream;
      written = within (λ x. x.written) 128000 (λ c. omega (arith, (line_small c).beats)) 10000 stream;
      cycles = within (λ x. x.cycles) 4000000000 (λ c. (line_small c).cycles) 10000 stream;
    }

-- ---- the stream

-- What is read for a capture, its total word and as many bytes as that says if a capture can have so many, has the line of all
-- that the word counts out.
pub read-as-cut : (stream : List ℕ) → line_of (read_of stream) ≡ line_of (take (header_word stream 0) stream)
read-as-cut = cutting.read-so

-- A month, capture by capture: nothing where the stream is at its end; the line of what is read; and behind it, unless it is a
-- refusal 1, the month of what is left.
pub capture-by-capture : (left : ℕ) (stream : List ℕ) → let x = line_of (read_of stream) in month_from (suc left) stream ≡
    cond (eqb (length stream) 0) (record { lines = []; ended = false; over = false })
    (cond (ends_stream x.answer) (record { lines = x ∷ []; ended = true; over = false }) (behind x (month_from left (left_of stream))))
capture-by-capture left stream = cutting.step-by-step stream left
