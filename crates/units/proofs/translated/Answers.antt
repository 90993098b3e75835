use Rattle.units.proofs.TranslationLaws.{host-fine, host-refused, request-fine, request-refused, request-decided, as-beside}
use Rattle.units.proofs.translated.Goals as goal

pub returns-in-Err : goal.returns-in-Err
returns-in-Err c = as-beside _ _ _ _ _ c.beside.ensures (host-refused _ _ _ _ _ _ c.in-Err.ensures)

pub judge_request-requires : goal.judge_request-requires
judge_request-requires c = (host-fine _ _ 0 0 0 c.in_default.ensures).lengths.control

pub returns-in-Err-judge_request : goal.returns-in-Err-judge_request
returns-in-Err-judge_request c = as-beside _ _ _ _ _ c.beside-in-Err-judge_request.ensures (request-refused _ _ _ _ _ c.in_default.ensures _ c.in-Err-judge_request.ensures)

pub decide-requires : goal.decide-requires
decide-requires c = let f = host-fine _ _ 0 0 0 c.in_default.ensures in
    let g = request-fine _ _ _ _ _ c.in_default.ensures c.in_default-judge_request.ensures in
    record { control_len = f.lengths.control; control_value = f.control; pages_len = f.lengths.pages; ranges_len = f.lengths.ranges; seen_bound = f.seen; next_le_largest_place = f.next; space_le_last_space = (g.space, g.page); le_access = g.access }

pub returns : goal.returns
returns c = request-decided _ _ _ _ _ c.in_default.ensures c.in_default-judge_request.ensures _ _ c.decide.ensures
