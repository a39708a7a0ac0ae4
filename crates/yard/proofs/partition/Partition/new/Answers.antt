use Rattle.std.proofs.Common.{length, sym, ap, ◌∙◌, subst}
use Rattle.std.proofs.lemmas.List.FromFn.{length-range_with_len}
use Rattle.network.proofs.Bounds.{each_point_below}
use Rattle.yard.specs.Partitions.{Below}
use Rattle.yard.proofs.partition.Partition.new.Goals as goal

pub invariant_of-result : goal.invariant_of-result
invariant_of-result c = record {
  whole = ap length c.each_point.ensures ∙ length-range_with_len 0 512;
  within = subst Below (sym c.each_point.ensures) each_point_below;
}
