use Rattle.std.proofs.Common.{vec_items}
use Rattle.labels.proofs.Steps.{all_written}
use Rattle.labels.proofs.text.drawn_text.Goals as goal

pub returns : goal.returns
returns c =
    let xs = vec_items c.args.drawn.now.xors in
    let ss = vec_items c.args.drawn.now.sums in
    let bs = vec_items c.args.drawn.now.pairs in
    let l = c.requires in
    let balanced = c.balance.ensures.1 (l.x.labelling.balanced, l.s.labelling.balanced, l.b.labelling.balanced) in
    record {
      xs = xs;
      ss = ss;
      bs = bs;
      labels = l;
      written = all_written _ _ _ xs ss bs _ _ c.tracks.ensures c.tracks-2.ensures c.balance_words-balance.ensures balanced c.in_ok-text.ensures c.in_ok-write.ensures.bytes;
    }
