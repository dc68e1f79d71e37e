-- Memory for a job of eight comparisons at any width.
use Rattle.std.specs.Prelude.{ℕ, List, replicate}
use Rattle.protocol.specs.Sizes.{most_jobs, round_for, work_for}

-- zeros to work in, and for the longest joined message, at the largest width
unfoldable pub blank_works : List ℕ
blank_works = replicate (work_for 31 most_jobs) 0

unfoldable pub blank_messages : List ℕ
blank_messages = replicate (round_for 31 most_jobs 1) 0
