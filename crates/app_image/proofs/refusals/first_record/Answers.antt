use Rattle.app_image.proofs.refusals.first_record.Goals as goal

pub returns : goal.returns
returns c =
    let found = rw (c.deref-code.ensures.value, c.deref.ensures.value, c.deref-2.ensures.value, c.deref-3.ensures.value, c.deref-4.ensures.value) at c.first_line.ensures in
    rw (← c.raw.view_is) found
