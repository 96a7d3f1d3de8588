use Rattle.samples.proofs.line.scaled_by_numbers.Goals as goal

pub returns : goal.returns
returns c =
    c.scaled_with_room.ensures
