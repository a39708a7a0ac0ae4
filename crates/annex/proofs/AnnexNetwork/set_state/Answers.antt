use Rattle.std.proofs.Common.{vec_items, ap, ◌∙◌}
use Rattle.network.specs.Tracks.{answer_of}
use Rattle.annex.specs.Annexed.{annexed}
use Rattle.annex.specs.Joins.{at_below, own_answers, below_follows, own_follows}
use Rattle.annex.proofs.AnnexNetwork.set_state.Goals as goal

pub returns-then-track-below : goal.returns-then-track-below
returns-then-track-below g c = record {
  value = c.set_state.ensures.value ∙ ap (answer_of c.args.shut) (at_below _ _ _ c.count-below.ensures c.args.track c.if-track-below.true);
  after =
      ap (λ ts. annexed ts (vec_items c.args.self.now.own)) c.set_state.ensures.after
      ∙ below_follows _ _ _ c.count-below.ensures c.args.shut c.args.track c.if-track-below.true;
}

pub returns : goal.returns
returns g c = record {
  value = c.set_own.ensures.value ∙ own_answers _ _ _ _ _ c.count-below.ensures c.args.self.now.own.ok.0 c.shown-shown.ensures c.args.shut c.args.track c.if-track-below.false;
  after =
      ap (λ n. annexed (g.N.Network.tracks n) (vec_items c.set_own.new.self.own)) c.set_own.ensures.below
      ∙ ap (annexed (g.N.Network.tracks c.args.self.now.below)) c.set_own.ensures.own
      ∙ own_follows _ _ _ _ _ c.count-below.ensures c.args.self.now.own.ok.0 c.shown-shown.ensures c.args.shut c.args.track c.if-track-below.false;
}
