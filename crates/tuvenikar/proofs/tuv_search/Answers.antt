-- The call's answer is packed as its definition says; the recording's array is left as the call leaves it,
-- and the work arrays as they were where the definition refuses.
use Rattle.tuvenikar.proofs.Left.{search_left}
use Rattle.tuvenikar.proofs.tuv_search.Goals as goal

pub returns : goal.returns
returns c = search_left c.search.ensures.recording_value c.pack_answer.ensures c.search.ensures.unchanged c.search.ensures.unchanged_2
