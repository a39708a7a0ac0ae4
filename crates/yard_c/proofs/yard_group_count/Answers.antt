use Rattle.std.proofs.Common.{rules}
use Rattle.yard_c.proofs.Sums.{asks_words, asks_groups}
use Rattle.yard_c.proofs.yard_group_count.Goals as goal

pub sum_given-requires-clause-count : goal.sum_given-requires-clause-count
sum_given-requires-clause-count c = search (rules, asks_words, asks_groups)
