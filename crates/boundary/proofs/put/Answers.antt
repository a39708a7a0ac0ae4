use Rattle.table.specs.Laying.{table_tracks}
use Rattle.boundary.proofs.Makes.{put_shut}
use Rattle.boundary.proofs.put.Goals as goal

pub returns-then-one : goal.returns-then-one
returns-then-one c =
    put_shut (table_tracks c.args.table.now) _ _ _ c.args.one.now c.requires.within c.requires.room c.if-one.true c.count-number.ensures c.lay.ensures.after c.shut.ensures.after
