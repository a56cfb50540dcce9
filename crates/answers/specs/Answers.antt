-- What a call for C answers. Document 01: "When an answer is an enum, a definition gives this paper's number and values for each
-- of its cases, and the promises use that definition." A refusal goes by its question's number, other answers by numbers from 64 on.
use Rattle.std.specs.Prelude.{◌≡◌, Bool, true, false, cond, ℕ, ◌+◌, ◌*◌, ◌/◌, ◌%◌, ◌^◌, eqb, Result, Ok, Err}
use Rattle.refusal.specs.Asked.{Reply, ok}
use Rattle.refusal.specs.declared.Refusal.{Refusal}
use Rattle.paper_search.specs.declared.Answer.{Answer}
use Rattle.paper_search.specs.declared.Answer.TheVariants as answer
use Rattle.node_calls.specs.declared.Span.{Span}

-- the numbers, as include/tuvenikar.h names them (TUV_NO, ..)
abbrev pub tuv_no : ℕ
tuv_no = 64

abbrev pub tuv_yes : ℕ
tuv_yes = 65

abbrev pub tuv_written : ℕ
tuv_written = 66

abbrev pub tuv_accepted : ℕ
tuv_accepted = 67

abbrev pub tuv_found : ℕ
tuv_found = 68

abbrev pub tuv_none : ℕ
tuv_none = 69

abbrev pub tuv_spent : ℕ
tuv_spent = 70

abbrev pub tuv_node_text : ℕ
tuv_node_text = 71

-- one number of 64 bits: its low half says what, its high half the place or the value
abbrev pub packed : ℕ → ℕ → ℕ
packed code value = code + 2 ^ 32 * value

-- and back, by the two halves
abbrev pub halves : {A : Type 0} → (ℕ → ℕ → A) → ℕ → A
halves by n = by (n % 2 ^ 32) (n / 2 ^ 32)

-- an answer is told by its number: what is decoded from that is the answer
abbrev pub Told : {A : Type 0} → (A → ℕ) → (ℕ → ℕ → A) → A → Type 0
Told pack by a = halves by (pack a) ≡ a

-- a refusal: the number of the question, and the place
abbrev pub pack_refusal : Refusal → ℕ
pack_refusal r = packed r.number r.place

abbrev pub refusal_by : ℕ → ℕ → Refusal
refusal_by code value = record { number = code; place = value }

-- evaluation: no or yes
unfoldable pub pack_verdict : Result Bool Refusal → ℕ
pack_verdict (Ok false) = packed tuv_no 0
pack_verdict (Ok true) = packed tuv_yes 0
pack_verdict (Err r) = pack_refusal r

abbrev pub verdict_by : ℕ → ℕ → Result Bool Refusal
verdict_by code value = cond (eqb code tuv_no) (Ok false) (cond (eqb code tuv_yes) (Ok true) (Err (refusal_by code value)))

-- a table, a file or an assignment: once it is written or read
unfoldable pub pack_written : Reply → ℕ
pack_written (Ok _) = packed tuv_written 0
pack_written (Err r) = pack_refusal r

abbrev pub written_by : ℕ → ℕ → Reply
written_by code value = cond (eqb code tuv_written) ok (Err (refusal_by code value))

-- a strip: how many bytes are written
unfoldable pub pack_printed : Result ℕ Refusal → ℕ
pack_printed (Ok n) = packed tuv_written n
pack_printed (Err r) = pack_refusal r

abbrev pub printed_by : ℕ → ℕ → Result ℕ Refusal
printed_by code value = cond (eqb code tuv_written) (Ok value) (Err (refusal_by code value))

-- a proposed assignment: where it is accepted
unfoldable pub pack_checked : Reply → ℕ
pack_checked (Ok _) = packed tuv_accepted 0
pack_checked (Err r) = pack_refusal r

abbrev pub checked_by : ℕ → ℕ → Reply
checked_by code value = cond (eqb code tuv_accepted) ok (Err (refusal_by code value))

-- the search: found, none or spent, each with its count
unfoldable pub pack_answer : Result Answer Refusal → ℕ
pack_answer (Ok (answer.Found n)) = packed tuv_found n
pack_answer (Ok (answer.None n)) = packed tuv_none n
pack_answer (Ok (answer.Spent n)) = packed tuv_spent n
pack_answer (Err r) = pack_refusal r

abbrev pub answer_by : ℕ → ℕ → Result Answer Refusal
answer_by code value =
    cond (eqb code tuv_found) (Ok (answer.Found value))
    (cond (eqb code tuv_none) (Ok (answer.None value)) (cond (eqb code tuv_spent) (Ok (answer.Spent value)) (Err (refusal_by code value))))

-- a node's own text: its first byte + 256 · how many bytes it has
unfoldable pub pack_located : Result Span Refusal → ℕ
pack_located (Ok span) = packed tuv_node_text (span.first + 256 * span.length)
pack_located (Err r) = pack_refusal r

abbrev pub located_by : ℕ → ℕ → Result Span Refusal
located_by code value = cond (eqb code tuv_node_text) (Ok (record { first = value % 256; length = value / 256 })) (Err (refusal_by code value))
