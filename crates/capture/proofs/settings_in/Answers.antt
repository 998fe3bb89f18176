use Rattle.settings.specs.Meaning.{held}
use Rattle.capture.proofs.settings_in.Goals as goal

pub returns : goal.returns
unfolding held
returns c = rw (c.setting_words-loaded.ensures, c.edition.ensures)
