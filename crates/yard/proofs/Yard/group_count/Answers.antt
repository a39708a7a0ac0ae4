use Rattle.yard.specs.Meaning.{yard_tracks}
use Rattle.yard.proofs.Answered.{represents_all}
use Rattle.yard.proofs.Marked.{group_count}
use Rattle.yard.proofs.Yard.group_count.Goals as goal

pub returns : goal.returns
returns c =
    let y = yard_tracks c.args.self.now in
    let held = represents_all y c.args.self.now.points _ c.partition_without.ensures in
    group_count y _ _ _ held c.touched-touched.ensures.value c.count_marked.ensures
