use Rattle.std.proofs.Common.{◌≡◌, rules}
use Rattle.circulation.specs.Units.{unit_word}
use Rattle.judging.proofs.Filling.{filled}
use Rattle.judging.proofs.rounds.unit_words.Goals as goal

pub returns-clause-words : goal.returns-clause-words
returns-clause-words c = filled (λ k y. y ≡ unit_word c.args.round k) 0 c.from_fn.ensures.items (λ k y q w. search rules)
