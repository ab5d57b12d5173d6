-- The sixteen cases of document 01, "Cells to try by hand": one table, one claim. Assumes nothing.
use mathlib.Core.Path.{◌≡◌, refl}
use mathlib.Core.List.{map}
use lib.ListN.{length}
use lib.Count.{ones, ones_in, count_trailing_zeros}
use Rattle.protocol.specs.Slices.{slice_number, width, cell_by_cell, every, in_range, sizes_good}
use Rattle.protocol.specs.Names.{rule_number, rule_of, proc_of}
use Rattle.protocol.specs.Masks.{has_board, with_board, without_board, has_another, lowest_board}
use Rattle.protocol.specs.Cell.{cell_by, current_value}
use Rattle.protocol.specs.Soundness.{from, up_to, asked_by, every_board, meets, sound}
use Rattle.protocol.specs.First.{first}
use Rattle.protocol.specs.Guards.{number_of, refuses, tests, guard}
use Rattle.protocol.specs.Effects.{effect, value_of, store_by, stores_by}
use Rattle.protocol.specs.Step.{malformed, missing, off_board, seen_by, refusals, answer_to, answer_by, table_after_by}
use Rattle.protocol.specs.Cases.{state, S0, S1, S2, S3, row, cases, played}

pub sixteen : (map played cases ≡ cases) × (length cases ≡ 16)
unfolding cases row state S0 S1 S2 S3 played answer_by table_after_by answer_to refusals seen_by first malformed missing off_board in_range sizes_good every width cell_by_cell cell_by sound meets asked_by every_board rule_number from up_to has_board with_board without_board has_another lowest_board current_value guard tests refuses number_of effect value_of slice_number store_by stores_by rule_of proc_of ones ones_in count_trailing_zeros
sixteen = (refl, refl)
