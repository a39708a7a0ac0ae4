use Rattle.circulation.proofs.Steady.{balanced}
use Rattle.circulation.proofs.Rounds.{told_bridge, told_apart}
use Rattle.circulation.proofs.telling_laws.Goals as goal

pub returns : goal.returns
returns g c =
    let G = g.K.Label.group in
    record {
      bridge = λ y t o n k. let r = told_bridge G y t o n k in (r.0, balanced G y r.0 r.1, r.2);
      pair = λ y t u d o p n m q k. let r = told_apart G y t u d o p n m q k in (r.0, balanced G y r.0 r.1, r.2, r.3);
    }
