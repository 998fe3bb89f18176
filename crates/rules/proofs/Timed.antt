-- What a test of one rule told: the rule is kept, or broken and named.
use mathlib.Core.Bool.{Bool, true, false}
use mathlib.Core.Path.{◌≡◌, refl, sym}
use Rattle.deadlines.specs.Deadlines.{rule_unless}
use Rattle.rules.specs.declared.Rule.{Rule}
use Rattle.rules.specs.Rule.{number_of}
use Rattle.rules.proofs.Handed.{some_rule}

pub kept : (k : Bool) (rule : Rule) → 0 ≡ rule_unless k (number_of rule) 0 → k ≡ true
kept true rule e = refl
kept false rule e = absurd (some_rule rule (sym e))

pub record Broke (k : Bool) (rule named : Rule) : Type 0 where
  pub fails : k ≡ false
  pub names : number_of named ≡ number_of rule

pub broke : (k : Bool) (rule : Rule) {named : Rule} → number_of named ≡ rule_unless k (number_of rule) 0 → Broke k rule named
broke true rule {named} e = absurd (some_rule named e)
broke false rule e = record { fails = refl; names = e }
