-- `longest_clean`: the part ends within the samples.
use native.Mathlib.Omega.{arith}
use Rattle.stretch.proofs.Answered.{within}
use Rattle.stretch.proofs.longest_clean.Goals as goal

pub overflow_mul-from : goal.overflow_mul-from
overflow_mul-from c = omega (arith, within _ _ _ _ c.longest_clean_run.ensures c.unwrap_or-run.ensures)

pub overflow_mul-to : goal.overflow_mul-to
overflow_mul-to c = omega (arith, within _ _ _ _ c.longest_clean_run.ensures c.unwrap_or-run.ensures)

pub overflow_add-to : goal.overflow_add-to
overflow_add-to c = omega (arith, within _ _ _ _ c.longest_clean_run.ensures c.unwrap_or-run.ensures)

pub offset_bounds-samples-from : goal.offset_bounds-samples-from
offset_bounds-samples-from c = omega (arith, within _ _ _ _ c.longest_clean_run.ensures c.unwrap_or-run.ensures)

pub slice_bounds-result-end : goal.slice_bounds-result-end
slice_bounds-result-end c = omega (arith, within _ _ _ _ c.longest_clean_run.ensures c.unwrap_or-run.ensures)
