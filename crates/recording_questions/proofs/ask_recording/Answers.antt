-- `ask_recording` asks what its definition asks:
-- whether the recording has k bytes.
use Rattle.paper_meaning.specs.Recording.{ask_recording}
use Rattle.recording_questions.proofs.ask_recording.Goals as goal

pub returns : goal.returns
unfolding ask_recording
returns c = c.ask.ensures
