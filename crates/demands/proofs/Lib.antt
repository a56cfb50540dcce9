-- The files of theorems, and the laws that they rest on.
-- Demand1: every call of ours, refused: by the first no, every lent array as it was; else only the named places are written.
-- Demand2: evaluation, node text, table, extension, check, files and strip of ours, sentence by sentence.
-- Demand3: the order, N and what the search of ours answers, sentence by sentence.
-- Agreement: of every call: ours fulfils its demand, and whatever does is ours.
-- Wrong: no engine of document 01's checklist fulfils the demands: each parts from a starred edge.
-- asked_obeys, obeys_two (Obeyed): a call that asks our questions obeys; two that obey part at most where both are answered.
-- orderly (Orderly): demand 1, one lemma for every call.
pub mod Obeyed
pub mod Answers
pub mod Files
pub mod Strips
pub mod Search
pub mod Checked
pub mod Orderly
pub mod Demand1
pub mod Demand2
pub mod Demand3
pub mod Agreement
pub mod Wrong
