use Rattle.label_c.proofs.label_given.Goals as goal

pub returns : goal.returns
returns g c =
    let made = c.in_ok-yard.ensures in
    (made.0, rw made.1 at c.in_ok-label_times.ensures)
