-- A record that was taken in is judged as the reading of the whole list judges it.
use Rattle.std.proofs.Common.{◌≡◌, ap, refl, ◌∙◌, ◌+◌, ◌<◌, arith}
use Rattle.sheet.specs.Records.{record_at}
use Rattle.sheet.specs.declared.records.Found.TheVariants.{Record}
use Rattle.sheet.proofs.Listed.{listed_start, listed_breaks, listed_fine}
use Rattle.sheet.proofs.listing.read_list.Goals as goal

pub loop-init : goal.loop-init
loop-init g c = (listed_start _ _ _ _ _ _ _ (ap (λ l. l.from) c.layout-form.ensures) c.requires, c.requires, refl, refl)

pub returns-in-Err-clause-told : goal.returns-in-Err-clause-told
returns-in-Err-clause-told g c = let i = c.loop.invariant in
    let t = g.L.RecordList in
    let found : record_at t.layout.place (t.bytes c.args.list.now) c.loop.start ≡ Record c.in-Some.next = grind arith in
    let room : t.taken c.loop.list < t.layout.most = grind arith in
    listed_breaks i.0 found room (rw (i.2, i.3) at c.in-Err.ensures.judged)

pub loop-preserved : goal.loop-preserved
loop-preserved g c = let i = c.loop.invariant in
    let t = g.L.RecordList in
    let took = c.in_default-take.ensures in
    let found : record_at t.layout.place (t.bytes c.args.list.now) c.loop.start ≡ Record c.in-Some.next = grind arith in
    let room : t.taken c.loop.list < t.layout.most = grind arith in (
      rw took.counted (listed_fine i.0 found room (rw (i.2, i.3) at took.judged)),
      took.counted ∙ ap (λ n. n + 1) i.1,
      took.same.0 ∙ i.2,
      took.same.1 ∙ i.3,
    )
