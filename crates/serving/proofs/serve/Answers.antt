-- The invariant: what was sent before the next try, and that there is room for it (Tries).
use mathlib.Core.Path.{refl}
use native.Mathlib.Omega.{arith}
use Rattle.reading.specs.Settings.{settings_of}
use Rattle.serving.proofs.Tries.{begins, in-time-now, late-now, room-behind, once_more}
use Rattle.serving.proofs.serve.Goals as goal

pub overflow_add-sure : goal.overflow_add-sure
overflow_add-sure c = omega (arith, c.requires.sure.small)

pub tries-init : goal.tries-init
tries-init c = let a = c.args in
    begins (settings_of a.scheduler.now.settings.now) a.scheduler.now.closed a.q a.margin a.state.now a.words.now c.requires.room refl

pub attempt-requires : goal.attempt-requires
attempt-requires c = record { asked = c.requires.asked; room = c.tries.invariant.room }

pub shape_of-words-then-attempt : goal.shape_of-words-then-attempt
shape_of-words-then-attempt c = omega (arith, c.tries.invariant.size)

pub returns-then-attempt : goal.returns-then-attempt
returns-then-attempt c = let a = c.args in
    let turn = in-time-now (settings_of a.scheduler.now.settings.now) a.scheduler.now.closed a.q a.margin a.state.now a.words.now c.requires.sure c.tries.state _
    c.attempt.ensures.words_after c.attempt.ensures.value c.tries.refreshed c.tries.invariant c.if-attempt.true in
    record { result_value = turn.0; words_after = turn.1; earlier_after = c.set_aside.ensures }

pub shape_of-words-then-refreshed-eq1 : goal.shape_of-words-then-refreshed-eq1
shape_of-words-then-refreshed-eq1 c = omega (arith, c.tries.invariant.size)

pub returns-then-refreshed-eq1 : goal.returns-then-refreshed-eq1
returns-then-refreshed-eq1 c = let a = c.args in
    let turn = late-now (settings_of a.scheduler.now.settings.now) a.scheduler.now.closed a.q a.margin a.state.now a.words.now c.requires.sure c.tries.state _
    c.attempt.ensures.words_after c.attempt.ensures.value c.tries.invariant c.if-refreshed-eq1.true c.if-attempt.false _ in
    record { result_value = turn.0; words_after = turn.1; earlier_after = c.set_aside.ensures }

pub start_again-requires : goal.start_again-requires
start_again-requires c = let a = c.args in
    room-behind (settings_of a.scheduler.now.settings.now) a.scheduler.now.closed a.q a.margin a.state.now a.words.now c.requires.sure c.tries.state _
    c.attempt.ensures.words_after c.attempt.ensures.value c.tries.invariant c.if-refreshed-eq1.false c.if-attempt.false
    c.requires.room a.earlier.now c.set_aside.ensures

pub tries-preserved : goal.tries-preserved
tries-preserved c = let a = c.args in
    once_more (settings_of a.scheduler.now.settings.now) a.scheduler.now.closed a.q a.margin a.state.now a.words.now c.requires.sure c.tries.state _
    c.attempt.ensures.words_after c.attempt.ensures.value c.tries.invariant c.if-refreshed-eq1.false c.if-attempt.false
    c.requires.room a.earlier.now c.set_aside.ensures _ c.start_again.ensures

pub shape_of-words : goal.shape_of-words
shape_of-words c = omega (arith, c.tries.invariant.size)

pub returns : goal.returns
returns c = absurd (omega (arith, c.tries.invariant.within))
