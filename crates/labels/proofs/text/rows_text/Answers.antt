use Rattle.std.proofs.Common.{◌≡◌, ◌<◌, ◌++◌, vec_items, string_bytes, length, sym, ap, ◌∙◌, subst, arith}
use Rattle.std.proofs.lemmas.List.{length_push}
use Rattle.std.proofs.lemmas.Iterator.Consumers.{YieldsList-turn, YieldsList-end}
use Rattle.labels.specs.Rows.{header, rows}
use Rattle.labels.proofs.Steps.{Given, shown, all_labelled, length-labelled, labelled_at, rows_more}
use Rattle.circulation.specs.Labels.{label}
use Rattle.graph.specs.Yards.{track}
use Rattle.label.specs.Kinds.{xors, sums, pairs}
use Rattle.labels.proofs.text.rows_text.Goals as goal
use Rattle.labels.proofs.text.rows_text.Goals.{In-Some}

pub loop-number-init : goal.loop-number-init
loop-number-init c =
    (all_labelled c.args.tracks.now (vec_items c.args.drawn.now.xors) (vec_items c.args.drawn.now.sums) (vec_items c.args.drawn.now.pairs) c.into_iter-number-iterator.result (cc) (cc) (cc) (cc) (cc), c.in_ok-text.ensures.ok)

-- what the loop gives in a turn: the next track with its labels
abbrev item : In-Some → Given
item c = (c.in-Some.number, (c.in-Some.track, ((c.in-Some.x, c.in-Some.s), c.in-Some.b)))

-- there is a track for the turn, and the item is that track with its labels
turn : (c : In-Some)
    → (length c.loop-number.yielded < length c.args.tracks.now)
    × (shown (item c) ≡ (length c.loop-number.yielded, (track c.args.tracks.now (length c.loop-number.yielded), ((label xors (vec_items c.args.drawn.now.xors) (length c.loop-number.yielded), label sums (vec_items c.args.drawn.now.sums) (length c.loop-number.yielded)), label (pairs xors sums) (vec_items c.args.drawn.now.pairs) (length c.loop-number.yielded)))))
turn c =
    let ts = c.args.tracks.now in
    let xs = vec_items c.args.drawn.now.xors in
    let ss = vec_items c.args.drawn.now.sums in
    let bs = vec_items c.args.drawn.now.pairs in
    let taken = YieldsList-turn c.loop-number.invariant.0 c.loop-number.yielded _ c.loop-number.yielded_by c.next.result c.next.new.self (item c) c.in-Some.is c.next.ensures.steps in (
      subst (λ n. length c.loop-number.yielded < n) (length-labelled ts xs ss bs c.requires.each) taken.0,
      labelled_at ts xs ss bs c.requires.each (length c.loop-number.yielded) (shown (item c)) taken.0 taken.1,
    )

pub push_row-requires : goal.push_row-requires
push_row-requires c =
    let here = turn (goal.at.push_row-requires c).In-Some in
    let number : c.in-Some.number ≡ length c.loop-number.yielded = ap (λ p. p.0) here.1 in
    let within = here.0 in
    let few = c.requires.few in
    omega arith

pub loop-number-preserved : goal.loop-number-preserved
loop-number-preserved c =
    let here = (goal.at.loop-number-preserved c).In-Some in (
      c.loop-number.invariant.0,
      subst (λ n. string_bytes c.push_row.new.text ≡ header ++ rows c.args.tracks.now (vec_items c.args.drawn.now.xors) (vec_items c.args.drawn.now.sums) (vec_items c.args.drawn.now.pairs) n)
          (sym (length_push c.loop-number.yielded (item here)))
          (rows_more c.args.tracks.now (vec_items c.args.drawn.now.xors) (vec_items c.args.drawn.now.sums) (vec_items c.args.drawn.now.pairs) c.requires.each (shown (item here)) c.loop-number.invariant.1 c.in_ok-push_row.ensures (turn here).1),
    )

pub returns : goal.returns
returns c =
    let ts = c.args.tracks.now in
    let xs = vec_items c.args.drawn.now.xors in
    let ss = vec_items c.args.drawn.now.sums in
    let bs = vec_items c.args.drawn.now.pairs in
    let end = YieldsList-end c.loop-number.invariant.0 c.loop-number.yielded _ c.loop-number.yielded_by c.next.result c.next.new.self c.in-None.is c.next.ensures.steps in
    c.loop-number.invariant.1 ∙ ap (λ n. header ++ rows ts xs ss bs n) (end.1 ∙ length-labelled ts xs ss bs c.requires.each)
