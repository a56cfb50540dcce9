-- Document 01, "Formula text": "The limits belong to the interval: at most 32 steps". Which intervals there are, and the constructor.
use Rattle.std.specs.Prelude.{◌&&◌, [], ◌∷◌, ℕ, ◌+◌, ◌*◌, ◌/◌, ◌≤◌, leb, Result, Ok, Err}
use Rattle.refusal.specs.Asked.{Reply, question, asked}
use Rattle.refusal.specs.declared.Refusal.{Refusal}
use Rattle.interval.specs.declared.Interval.{Interval}
use Rattle.interval.specs.declared.Triple.{Triple}

-- "at most 32 steps"
abbrev pub max_steps : ℕ
max_steps = 32

-- "each of the 561 intervals": I of the most steps
abbrev pub max_count : ℕ
max_count = (max_steps + 1) * (max_steps + 2) / 2

-- question 2: is k at most 32?
unfoldable pub ask_steps : ℕ → Reply
ask_steps k = question 2 0 (leb k max_steps)

-- question 9: is i ≤ j ≤ k?
unfoldable pub ask_interval : ℕ → ℕ → ℕ → Reply
ask_interval i j k = question 9 0 (leb i j && leb j k)

-- the constructor asks 2 and 9
unfoldable pub made_of : ℕ → ℕ → ℕ → Result Interval Refusal
made_of i j k = asked (ask_steps k ∷ ask_interval i j k ∷ []) Err (Ok (record { i = i; j = j }))

-- v is an interval of k steps: "0 ≤ i ≤ j ≤ k"
pub record IntervalOf (k : ℕ) (v : Interval) : Type 0 where
  pub starts : v.i ≤ v.j
  pub ends : v.j ≤ k

-- t is a triple of k steps: "i ≤ m ≤ j"
pub record TripleOf (k : ℕ) (t : Triple) : Type 0 where
  pub starts : t.i ≤ t.m
  pub cut : t.m ≤ t.j
  pub ends : t.j ≤ k
