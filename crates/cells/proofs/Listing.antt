-- From a capture's bytes to the answer and the buffer.
use Prim.Native.Nat.{ℕ, ◌≤◌}
use mathlib.Core.List.{List}
use mathlib.Core.Option.{Option, none}
use mathlib.Core.Path.{◌≡◌, sym, ap, ◌∙◌, subst}
use lib.ListN.{length}
use lib.Seq.{sets}
use Rattle.reading.specs.Settings.{Settings, settings_of}
use Rattle.reading.specs.Capture.{most_events}
use Rattle.reading.specs.Verdict as is
use Rattle.reading.specs.Verdict.{verdict_of}
use Rattle.reading.specs.Answers.{Answer, refused, answered, unless, leaves, fitting, Report, not_clean, verdict_in, judge_answer, judge_answer_to, cells_in, cells_outcome}
use Rattle.std.specs.Prelude as std
use Rattle.std.specs.Prelude.{Some, None}
use Rattle.words.specs.Found.{place_of}
use Rattle.capture.specs.Calls.{opened, Accepted, Meets}
use Rattle.capture.proofs.Outcome as outcome
use Rattle.capture.proofs.Outcome.{refused-meets, wrote-meets}
use Rattle.capture.proofs.Accepted.{answered-in, followed, accepted-rest, refused-to}
use Rattle.capture.proofs.Opened.{Opened}
use Rattle.judge.specs.Meaning.{events_in}
use Rattle.judge.proofs.Judging as judging
use Rattle.cells.specs.Meaning.{Listable, Clean, cells_on, lacking_in, listing}

-- ---- accepted: refusals 8 and 7, or the cells

module _ (s : Settings) (bytes : List ℕ) (n : ℕ) (buffer : List ℕ) (found : std.Option ℕ) (f : place_of found ≡ not_clean (verdict_of s (events_in bytes n))) where
  judged : {o : Option ℕ} → place_of found ≡ o →
      unless 8 (not_clean (verdict_of s (events_in bytes n))) (fitting buffer (cells_on s bytes n)) ≡ unless 8 o (fitting buffer (cells_on s bytes n))
  judged e = ap (λ (x : Option ℕ). unless 8 x (fitting buffer (cells_on s bytes n))) (sym f ∙ e)

  pub not-clean : {i : ℕ} → found ≡ Some i → Meets (refused 8 i) buffer (listing s bytes n buffer)
  unfolding listing
  not-clean e = refused-meets (judged (ap place_of e))

  module _ (e : found ≡ None) where
    pub none-broken : not_clean (verdict_of s (events_in bytes n)) ≡ none
    none-broken = sym f ∙ ap place_of e

    abbrev total : ℕ
    total = length (cells_on s bytes n)

    module _ (short : std.Option ℕ) (l : place_of short ≡ lacking_in (length buffer) total) where
      pub too_short : {cells : ℕ} → short ≡ Some cells → Meets (refused 7 cells) buffer (listing s bytes n buffer)
      unfolding listing
      too_short g =
          refused-meets (judged (ap place_of e) ∙ ap (λ (o : Option ℕ). unless 7 o (answered (cells_on s bytes n))) (sym l ∙ ap place_of g))

      pub fits : short ≡ None → total ≤ length buffer
      fits g =
          (outcome.fits buffer (cells_on s bytes n)
          (ap (λ (o : Option ℕ). unless 7 o (answered (cells_on s bytes n))) (sym l ∙ ap place_of g))).1

      pub listed : {cells : ℕ} {out : List ℕ} → short ≡ None → cells ≡ total → out ≡ sets buffer 0 (cells_on s bytes n) →
          Meets (answered cells) out (listing s bytes n buffer)
      unfolding listing
      listed g c w = wrote-meets buffer (cells_on s bytes n) (judged (ap place_of e)) (fits g) c w

-- ---- the capture

-- one that is not accepted
pub refused-held : (c buffer : List ℕ) {number place : ℕ} → refused number place ≡ opened c → Meets (refused number place) buffer (cells_outcome c buffer)
unfolding cells_outcome
refused-held c buffer said = refused-meets (refused-to most_events c _ (sym said))

-- by what the judge says of it
report_in : Report → Answer Report → Report
report_in r (refused number place) = r
report_in r (answered x) = x

module _ (c : List ℕ) where
  pub judged-refused : {number place : ℕ} → refused number place ≡ judge_answer c → opened c ≡ refused number place
  unfolding judge_answer_to
  judged-refused said = go (opened c) _ (sym (said ∙ followed most_events c _))
    where
      go : {A : Type 0} {number place : ℕ} (a : Answer (Unit {0})) (x : A) → outcome.follow a (answered x) ≡ refused number place → a ≡ refused number place
      go (refused k p) x e = cc
      go (answered tt) x e = outcome.not-refused e

  module _ {r : Report} (said : answered r ≡ judge_answer c) where
    pub judged-accepted : Accepted c
    unfolding judge_answer_to
    judged-accepted = (answered-in most_events c _ (sym said)).0

    pub judged-verdict : verdict_in c ≡ r.verdict
    unfolding judge_answer_to report_in
    judged-verdict = ap (λ (x : Answer Report). (report_in r x).verdict) (answered-in most_events c _ (sym said)).1

module _ {c settings : List ℕ} {n : ℕ} {bytes : List ℕ} (x : Opened most_events c settings n bytes) where
  pub listable : Listable settings bytes n
  listable = record { few = x.few; fit = judging.fit x; sized = record { rows = x.rows; columns = x.columns }; moded = x.moded }

  pub clean-here : verdict_in c ≡ is.clean → Clean (settings_of settings) bytes n
  unfolding verdict_in
  clean-here k = rw (x.settings-are, x.events-are) (ap not_clean k)

  pub listed-so : (buffer : List ℕ) {a : Answer ℕ} {out : List ℕ} → Meets a out (listing (settings_of settings) bytes n buffer) → Meets a out (cells_outcome c buffer)
  unfolding listing cells_on cells_outcome cells_in verdict_in
  listed-so buffer {a} {out} m = subst (Meets a out) same m
    where
      same : listing (settings_of settings) bytes n buffer ≡ cells_outcome c buffer
      same = rw (x.settings-are, x.events-are) (ap (λ (a : Answer (List ℕ)). leaves a buffer) (sym (accepted-rest c _ x.open-to)))
