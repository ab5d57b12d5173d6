-- Document 01's 130-byte session has the listing that is printed there, by computing. Assumes nothing.
use mathlib.Core.Path.{◌≡◌, refl}
use lib.Count.{ones, ones_in, count_trailing_zeros}
use Rattle.protocol.specs.Names.{rule_of, rule_number, proc_of}
use Rattle.protocol.specs.Masks.{has_board, with_board, without_board, has_another, lowest_board}
use Rattle.protocol.specs.Slices.{slice_number, width, cell_by_cell, every, in_range, sizes_good}
use Rattle.protocol.specs.Cell.{current_value, cell_by}
use Rattle.protocol.specs.First.{first}
use Rattle.protocol.specs.Fresh.{fresh_table}
use Rattle.protocol.specs.Effects.{effect, value_of, store_by, stores_by}
use Rattle.protocol.specs.Guards.{number_of, refuses, tests, guard}
use Rattle.protocol.specs.Soundness.{from, up_to, asked_by, every_board, meets, sound}
use Rattle.protocol.specs.Step.{malformed, missing, off_board, seen_by, refusals, answer_to, answer_by, table_after_by}
use Rattle.protocol.specs.Runs.{table_after_all_by, log_by, is_write, followed, latest_write}
use Rattle.sessions.specs.File.{le16, le32, marked, values, action_at, actions}
use Rattle.sessions.specs.FileRefusals.{head_refusals, body_refusals, records_bad, body_bad, read_refusals}
use Rattle.sessions.specs.Run.{end_of, log_of, accepted_in, count_below, sum_below, stale_in, stale_of}
use Rattle.listing.specs.Decimal.{digits_in, digits}
use Rattle.listing.specs.Example.{session, listing}
use Rattle.listing.specs.Listing.{behind, line, record_lines, run_listing, listing_of}

pub whole_listing : listing_of session ≡ listing
unfolding rule_of rule_number proc_of has_board with_board without_board has_another lowest_board slice_number width cell_by_cell every in_range sizes_good current_value cell_by first fresh_table effect value_of store_by stores_by number_of refuses tests guard from up_to asked_by every_board meets sound malformed missing off_board seen_by refusals answer_to answer_by table_after_by table_after_all_by log_by is_write followed latest_write le16 le32 marked values action_at actions head_refusals body_refusals records_bad body_bad read_refusals end_of log_of accepted_in count_below sum_below stale_in stale_of digits_in digits behind line record_lines run_listing listing_of ones ones_in count_trailing_zeros
whole_listing = refl
