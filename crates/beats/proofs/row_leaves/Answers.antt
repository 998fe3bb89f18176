use Prim.Native.Nat.{ℕ, ◌+◌, ◌-◌}
use mathlib.Core.Bool.{Bool, cond}
use mathlib.Core.Path.{sym, ap, ◌∙◌}
use borrow.Author.Rules.{rules}
use Rattle.reading.specs.Search.{lesser}
use Rattle.reading.specs.Settings.{settings_of}
use Rattle.pins.specs.Pins.{bank_of}
use Rattle.beats.specs.Ahead.{ends_row}
use Rattle.beats.proofs.Searching.{row-is}
use Rattle.beats.proofs.row_leaves.Goals as goal

pub returns-in_default : goal.returns-in_default
returns-in_default c = let a = c.args in
    row-is a.events.now a.i c.requires c.cycle-k.ensures (settings_of a.s.now) a.pairs (c.bank-bank.ensures.0 ∙ ap bank_of c.pins.ensures)
    c.data_after-reach.ensures (c.first_ahead.ensures (ends_row c.bank-bank.result) (λ w r p. search rules)) c.in_default.is

pub returns-then-shuts_bank : goal.returns-then-shuts_bank
returns-then-shuts_bank c = let a = c.args in
    let t = c.in-Some.t in
    c.before-then-shuts_bank.ensures
    ∙ ap (λ (from : ℕ). lesser a.pairs (t - from)) c.after2.ensures
    ∙ ap (λ (v : Bool). cond v (lesser a.pairs (t - (c.cycle-k.result + 1 + (settings_of a.s.now).t_wr))) a.pairs)
    (sym (sym c.shuts_bank.ensures ∙ c.if-shuts_bank.true))
    ∙ row-is a.events.now a.i c.requires c.cycle-k.ensures (settings_of a.s.now) a.pairs (c.bank-bank.ensures.0 ∙ ap bank_of c.pins.ensures)
    c.data_after-reach.ensures (c.first_ahead.ensures (ends_row c.bank-bank.result) (λ w r p. search rules)) c.in-Some.is

pub returns : goal.returns
returns c = let a = c.args in
    let t = c.in-Some.t in
    ap (λ (v : Bool). cond v (lesser a.pairs (t - (c.cycle-k.result + 1 + (settings_of a.s.now).t_wr))) a.pairs)
    (sym (sym c.shuts_bank.ensures ∙ c.if-shuts_bank.false))
    ∙ row-is a.events.now a.i c.requires c.cycle-k.ensures (settings_of a.s.now) a.pairs (c.bank-bank.ensures.0 ∙ ap bank_of c.pins.ensures)
    c.data_after-reach.ensures (c.first_ahead.ensures (ends_row c.bank-bank.result) (λ w r p. search rules)) c.in-Some.is
