use Rattle.std.proofs.Common.{length, ap, arith}
use Rattle.tuchovai_c.proofs.calls.table_of_card.Goals as goal

pub table_of-requires : goal.table_of-requires
table_of-requires c =
    let small = c.in_ok-done.ensures.small in
    record {
      marks = omega (arith, ap length c.as_slice.ensures.value, small.marks);
      awaits = omega (arith, ap length c.as_slice-2.ensures.value, small.awaits);
      wrappers = omega (arith, ap length c.as_slice-3.ensures.value, small.wrappers);
    }
