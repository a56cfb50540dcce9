-- What the reading functions answer, in the reader's terms: a part from a place on, whatever stands around it. Nothing here need be
-- believed: no call open to others cites it.
use Rattle.std.specs.Prelude.{◌≡◌, Bool, cond, List, [], ◌∷◌, ℕ, suc, ◌+◌, ◌*◌, ◌-◌, ◌≤◌, ◌<◌, eqb, length, drop, ⊤, Result, Ok, Err}
use Rattle.paper_grammar.specs.Trees.{Tree}
use Rattle.paper_grammar.specs.Reader.{Around, whole, Reading, part, after, Ending, reads, stops, is_digit, run, Read, parsed, stopped, read}
use Rattle.paper_grammar.specs.declared.Sort.{Sort}

-- how far a read came: the place after it, or where it stops
abbrev pub Got : Type 0
Got = Result ℕ ℕ

-- the outcome of a text from where a read came on
abbrev pub resume : {r : Sort} → List ℕ → Reading r → Got → Ending r
resume t m (Ok n) = run m (drop n t)
resume t m (Err p) = stops (drop p t)

-- a good read has passed a byte; either stays within the text
abbrev pub Within : List ℕ → ℕ → Got → Type 0
Within t at (Ok n) = (at < n) × (n ≤ length t)
Within t at (Err p) = p ≤ length t

-- from `at` on a part of sort s was read, or reading stops, whatever stands around it
pub record PartAt (t : List ℕ) (s : Sort) (at : ℕ) (g : Got) : Type 0 where
  pub within : Within t at g
  pub tree : Tree s
  pub same : (r : Sort) (K : Around r s) → run (part s K) (drop at t) ≡ resume t (after tree K) g

-- the byte at n, the first of what is left, must pass a test
abbrev pub test_at : (ℕ → Bool) → ℕ → List ℕ → Got
test_at f n [] = Err n
test_at f n (b ∷ q) = cond (f b) (Ok (n + 1)) (Err n)

abbrev pub is_sign : ℕ → ℕ → Bool
is_sign v b = eqb b v

-- how many digits what is left begins with
unfoldable pub digit_count : List ℕ → ℕ
digit_count [] = 0
digit_count (b ∷ q) = cond (is_digit b) (suc (digit_count q)) 0

-- their value, v for those before them
abbrev pub value_from : ℕ → List ℕ → ℕ
value_from v [] = v
value_from v (b ∷ q) = cond (is_digit b) (value_from (v * 10 + (b - 48)) q) v

-- a number must stand at n: `0`, or a digit from 1 to 9 and any digits
abbrev pub number_at : ℕ → List ℕ → Got
number_at n [] = Err n
number_at n (b ∷ q) = cond (eqb b 48) (Ok (n + 1)) (cond (is_digit b) (Ok (n + 1 + digit_count q)) (Err n))

-- a good read goes on
abbrev pub on_good : List ℕ → (ℕ → List ℕ → Got) → Got → Got
on_good t f (Ok n) = f n (drop n t)
on_good t f (Err p) = Err p

-- where reading a part of sort s from `at` on stops
abbrev pub rest_of : {r : Sort} → Ending r → List ℕ
rest_of (reads x) = []
rest_of (stops q) = q

unfoldable pub end_of : List ℕ → Sort → ℕ → ℕ
end_of t s at = length t - length (rest_of (run (part s whole) (drop at t)))

-- whether a text reads
abbrev pub parse_of : {r : Sort} → Read r → Result ⊤ ℕ
parse_of (parsed x) = Ok tt
parse_of (stopped p) = Err p

unfoldable pub parse_text : List ℕ → Result ⊤ ℕ
parse_text t = parse_of (read t)
