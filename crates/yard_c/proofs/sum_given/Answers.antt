use Rattle.yard_c.proofs.sum_given.Goals as goal

pub returns : goal.returns
returns g c =
    let made = c.in_ok-yard.ensures in (
      made.0,
      record {
        some = λ e. let h = c.sum_asked.ensures.some e in (h.0, (_, made.1, h.1), h.2);
        none = c.sum_asked.ensures.none;
      },
    )
