-- What the tables promise to a layer above, beyond the contracts of their functions: laws of the definitions that promises name. A crate above imports from the tables this module and those definitions, and nothing else.

-- the buffers: their lengths, the parts of sound tables, and where a page's word stands
pub use Rattle.layout.proofs.SoundLaws.{Lengths, lengths-at, pages-long, ranges-long, sound-parts, sound-exactly}
pub use Rattle.layout.proofs.PlainLaws.{page-place}
-- free frames + mapped pages are the pool
pub use Rattle.layout.proofs.PointingLaws.{balance}
-- the control words: the open spaces and the removal log, after each write
pub use Rattle.control.proofs.ControlLaws.{lawful-says, used-exactly, used-says, SamePlace, fresh-length, fresh-pool, fresh-mask, fresh-removals}
pub use Rattle.control.proofs.ControlLaws.{mask-length, mask-pool, mask-removals, mask-places, opened-here, opened-other, closed-mask, closed-other}
pub use Rattle.control.proofs.ControlLaws.{appended-length, appended-pool, appended-mask, appended-removals, appended-space, appended-first, appended-count, appended-places}
pub use Rattle.control.proofs.MaskLaws.{cleared-here}
pub use Rattle.layout.proofs.CallLaws.{open_by}
-- page words: what one says, whatever its range bit; the rights of one of the layout, and that allowed rights are not reserved
pub use Rattle.runs.proofs.WordLaws.{Like, Says, made_word, zero-unmapped, word-rights, allowed-low, not-reserved, zero-unreserved}
pub use Rattle.layout.proofs.RightsLaws.{reserved-unsound}
pub use Rattle.layout.proofs.PlainLaws.{like-word, pages-of}
-- the plain state: sound tables are those of a valid one, and each accepted call leaves a valid one
pub use Rattle.layout.proofs.PlainLaws.{sound-valid, valid-sound, valid-lengths}
pub use Rattle.layout.proofs.ChangeLaws.{set_up-valid, span-test, test-span, words-here, words-other, changed-at, owner-some}
pub use Rattle.layout.proofs.CallLaws.{opened-valid, closed-valid, mapped-valid, unmapped-valid, protected-valid}
-- the calls: what an accepted one was asked and leaves, and that a refused one alters nothing
pub use Rattle.layout.proofs.CallLaws.{Judged, Opening, Closing, Mapping, Unmapping, Protecting, set_up-facts, open-facts, close_facts, map-facts, unmap-facts, protect-facts}
pub use Rattle.layout.proofs.AcceptedLaws.{call_none, call-is}
pub use Rattle.layout.proofs.CallLaws.{refused-alters-nothing}
