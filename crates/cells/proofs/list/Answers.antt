use Rattle.reading.specs.Settings.{settings_of}
use Rattle.cells.proofs.Listing.{not-clean, too_short, listed}
use Rattle.cells.proofs.list.Goals as goal

pub returns-in-Some : goal.returns-in-Some
returns-in-Some c = let x = c.args.opened.now in
    let p = not-clean (settings_of x.settings) x.events.bytes.now x.events.count c.args.out.now _ c.first_broken.ensures c.in-Some.is in
    record { result_value = p.0; out_after = p.1 }

pub returns-in-Some-lacking : goal.returns-in-Some-lacking
returns-in-Some-lacking c = let x = c.args.opened.now in
    let p =
    too_short (settings_of x.settings) x.events.bytes.now x.events.count c.args.out.now _ c.first_broken.ensures c.in_default.is
    _ c.lacking.ensures c.in-Some-lacking.is in
    record { result_value = p.0; out_after = p.1 }

pub returns-then-opened-eq1 : goal.returns-then-opened-eq1
returns-then-opened-eq1 c = let x = c.args.opened.now in
    let p =
    listed (settings_of x.settings) x.events.bytes.now x.events.count c.args.out.now _ c.first_broken.ensures c.in_default.is
    _ c.lacking.ensures c.in_default-lacking.is c.write.ensures.value c.write.ensures.out_after in
    record { result_value = p.0; out_after = p.1 }

pub returns : goal.returns
returns c = let x = c.args.opened.now in
    let p =
    listed (settings_of x.settings) x.events.bytes.now x.events.count c.args.out.now _ c.first_broken.ensures c.in_default.is
    _ c.lacking.ensures c.in_default-lacking.is c.write-2.ensures.value c.write-2.ensures.out_after in
    record { result_value = p.0; out_after = p.1 }
