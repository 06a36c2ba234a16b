-- `fill` calls itself for each half, so its measure is how many edges there are.
use Rattle.pages.proofs.Filling.{fill_one, fill_both}
use Rattle.pages.proofs.boxes.+fill.Goals as goal

pub returns-then-edges-eq1 : goal.returns-then-edges-eq1
returns-then-edges-eq1 t c = let (e, f) = fill_one _ _ _ _ _ _ _ c.if-edges-eq1.true c.edge_extent-one.ensures c.put_extent.ensures in record { extent = e; floats = f }

pub returns : goal.returns
returns t c =
    let a = c.fill-a.ensures in
    let b = c.fill-b.ensures in
    let (e, f) = fill_both _ c.args.boxes.now _ _ _ c.args.place c.args.edge c.args.edges _ _ _ c.requires.some c.if-edges-eq1.false (a.extent, a.floats) (b.extent, b.floats) c.join-all.ensures c.put_extent-2.ensures in
    record { extent = e; floats = f }
