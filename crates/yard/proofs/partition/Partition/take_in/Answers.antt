use Rattle.yard.proofs.Taken.{taken_shut, taken_chord, taken_tree}
use Rattle.yard.proofs.partition.Partition.take_in.Goals as goal

pub returns-then-one : goal.returns-then-one
returns-then-one c = taken_shut c.args.self.now.reps c.args.one c.if-one.true

pub returns-then-u-v : goal.returns-then-u-v
returns-then-u-v c = taken_chord c.args.self.now.reps c.args.one c.if-one.false c.requires c.if-u-v.true

pub returns : goal.returns
returns c = taken_tree c.args.self.now.reps c.args.one c.if-one.false c.requires c.replace.new.reps c.args.self.now.whole c.if-u-v.false c.replace.ensures
