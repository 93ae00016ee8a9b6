-- What these proofs speak of and stand on, passed on from one place. Declares nothing.
pub use Rattle.std.specs.List.{filter, insert, list_any}
pub use Rattle.ug_audit.specs.declared.entry.Entry.{Entry}
pub use Rattle.ug_audit.specs.declared.entry.Fault.{Fault}
pub use Rattle.ug_kernel.proofs.Grow.{called_grows, grows_refl, grows_trans, quiet_grows, some_same}
pub use Rattle.ug_kernel.proofs.Quiet.{WritesNothing, called_quiet, moves_quiet, quiet_refl, quiet_trans}
pub use Rattle.ug_kernel.proofs.Told.{told_run}
pub use Rattle.ug_kernel.proofs.Ways.{Sure, Unwritten, Way, Ways, Went as Ran, along_grows, along_quiet, along_sound, along_split, behind_sure, failures_more, sure_last, way_runs, ways_last, ways_more, ways_next, ways_run}
pub use Rattle.ug_kernel.specs.Along.{Made, made_with, Along, failure_of, failures, count_calls, failure, Rises}
pub use Rattle.ug_kernel.specs.Called.{Follows, says_probe, IsWritten, IsGoneAt, says_put, Called, says_listing, Lived, value_after, written_to, does_put, IsAlive}
pub use Rattle.ug_kernel.specs.Calls.{Call, Answer, Names, Ask_alive, Put, Close, ToldAnswer, Closing, Open, Read, failed_read}
pub use Rattle.ug_kernel.specs.Kernel.{Kernel, Moves, IsKernel, IsOpenable, Live, Stays}
pub use Rattle.ug_kernel.specs.Quiet.{Grows, Quiet}
pub use Rattle.ug_kernel.specs.Tree.{Runs, calls, Ask}
pub use Rattle.ug_kernel.specs.declared.calls.FailedCall.{FailedCall}
pub use Rattle.ug_kernel.specs.declared.calls.Listing.{Listing}
pub use Rattle.ug_kernel.specs.declared.calls.Probe.{Probe}
pub use Rattle.ug_kernel.specs.declared.calls.Wrote.{Wrote}
pub use Rattle.ug_kernel.specs.declared.device.Device.{Device}
pub use Rattle.ug_kernel.specs.Bind.{binding, binding_of}
pub use Rattle.ug_kernel.specs.declared.identity.Binding.{Binding}
pub use Rattle.ug_kernel.specs.declared.identity.Bound.{Bound}
pub use Rattle.ug_kernel.specs.declared.removal.RemoveHold.{RemoveHold}
pub use Rattle.ug_record.specs.Records.{judged_of}
pub use Rattle.ug_table.specs.Bring.{CallsFor, NeedsMemory, after_default, by_default, default_due, default_write, defaulted_known, after_hold, after_value, after_write, close_gone, if_to_go, is_reject, is_to_go, to_value, wants, write_of}
pub use Rattle.ug_table.specs.Done.{IsOnce, control_of, is_done}
unfoldable pub use Rattle.ug_table.specs.Bring.{bringing, once, treating, valuing, writing}
pub use Rattle.ug_table.specs.Laws.{Stand, HasHash, IsSpared, Tries, IsDevice, MayHave, MayHaveNot, wrote_entries, HasDone, IsFirst, Account, Start, Had, Had_not, AreInOrder, none_before, IsProbed, numbers_of, Judge, IsOne, IsTold, HasStanding, IsFair, IsDoneMarked, swept_before, IsGone, Went, gone_of, IsRecordOf, IsNamed, IsAsJudged, IsSettled, TellsNeither, HasVerdict, Note, Swept, Sweeps, IsMarked, IsUnlisted, IsListed, IsMarkedIn, AreMarkedIn, Stands, IsJudged, AreLeft, WasDone, TellsDone}
pub use Rattle.ug_table.specs.One.{GoesAsPart, IsOf, LivedAs, NeedsRoom, ResettledOne, ResettlesOne, SettledOne, SettlesOne, again_numbered, failed_of, why_in, why_of, whys}
unfoldable pub use Rattle.ug_table.specs.One.{resettling_numbered}
pub use Rattle.ug_table.specs.Order.{IsNextNumbered, KeepsOrder, StandInOrder, is_nearer}
pub use Rattle.ug_table.specs.Parts.{is_default, opens, opens_default, found_by, name_in, unsettled_names, EndsUnsettled, NamesOnce, Part, IsLast, unlisted_files, OpenFile, open_file, Behind, behind_more, IsWriteDue, PutMade, AtMostOneEach, call_told, failure_in, failures_told, write_in, writes_in, TellsWrites, IsBoundAnew, FoundNoRoom, LacksRoom, OpenedFile, IsOnceDue, known_files, AllBear, number_of, AreOfNumber, numbers_given, AreClosings, close_file, files_left, files_after, AreAbout, EndsAtFailure, AreDue, put_of, puts_of, InParts, AfterListing, GoesInParts, TellsFaults}
pub use Rattle.ug_table.specs.Parent.{parent_standing, held_of, binding_by, binding_for, judged_bound, bound_hash}
pub use Rattle.ug_table.specs.Ending.{reads_last, probes, without_asking, ending_calls, kept_file}
pub use Rattle.ug_table.specs.Settle.{after_again, after_bind, after_known, again, dropped, from_standing, if_place, if_record, judged_entry, kept_standings, known_in, no_room, standing_for, stands, to_judge, to_keep, to_keep_mark, to_mark, tried_standings, unsettled_by}
unfoldable pub use Rattle.ug_table.specs.Settle.{admitting, entering, resettling, settling}
pub use Rattle.ug_table.specs.Standings.{did_default, with_default, lists, farewells, known_of, standing_of, without, with_standing, place_for, settled_standing, same_name, marked, numbered, removed_of}
pub use Rattle.ug_table.specs.State.{State, Answers, Laters, Kept, Terms, terms_of, terms_for, noted, kept_of, with_kept}
pub use Rattle.ug_table.specs.Sweep.{after_list, closing_unlisted, if_room, marked_listed, names_of, parted, resettling_all, resumed, settling_all, unlisted}
unfoldable pub use Rattle.ug_table.specs.Sweep.{sweeping}
pub use Rattle.ug_table.specs.declared.standing.Known.{Known}
pub use Rattle.ug_table.specs.declared.standing.Settled.{Settled}
pub use Rattle.ug_table.specs.declared.standing.Standing.{Standing}
pub use Rattle.ug_types.proofs.Elements.{cancel, distinct_append, distinct_filter, distinct_insert, distinct_one, filter_has, has_cases, has_filter, has_left, has_map, has_new, has_old, has_right, insert_has, last_is, map_has, only_left}
pub use Rattle.ug_types.specs.Elements.{Has, AllDistinct}
pub use Rattle.ug_types.specs.Names.{parent_of, sweep_cmp}
pub use Rattle.ug_types.specs.Sweep.{in_sweep_order, in_sweep_place, sweep_total, sweep_exact}
pub use Rattle.ug_kernel.specs.declared.control.Control.{Control}
pub use Rattle.ug_kernel.specs.declared.control.Control.TheVariants.{Authorized, Remove, Default}
pub use Rattle.ug_kernel.specs.declared.control.Write.{Write}
pub use Rattle.ug_types.specs.declared.record.Judged.{Judged}
pub use Rattle.ug_types.specs.declared.verdict.Cause.{Cause}
pub use Rattle.ug_kernel.specs.declared.control.Held.{Held}
pub use Rattle.ug_types.specs.declared.verdict.Target.{Target}
