use Rattle.circulation.proofs.Steady.{steady}
use Rattle.circulation.proofs.Totals.{cut}
use Rattle.circulation.proofs.Carried.{zero_on_bridge, alike_on_pair}
use Rattle.circulation.proofs.balance_laws.Goals as goal

pub returns : goal.returns
returns g c =
    let G = g.K.Label.group in
    record {
      cut = λ y ks b S. cut G S y ks (steady G y ks b);
      bridge = λ y ks b t s. zero_on_bridge G y ks (steady G y ks b) t s;
      pair = λ y ks b t u m. alike_on_pair G y ks (steady G y ks b) t u m;
    }
