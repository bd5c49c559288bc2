-- The abstract machine, in the order of reading: each file cites those before it alone, and beside them alta_codec and alta_text.
-- documents: their terms and cells, and what commands do to a state
pub mod Numbers
pub mod Terms
pub mod Cells
pub mod States
pub mod Changes
-- queries: what they say, how a text is read as one, its first fault, and its canonical spelling
pub mod Words
pub mod Shape
pub mod Token
pub mod Spots
pub mod Grammar
pub mod QueryFaults
pub mod Parser
pub mod Queries
pub mod Canon
pub mod Spelling
-- matching: which documents a query matches
pub mod Covers
pub mod Patterns
pub mod Matches
pub mod Deciding
-- command lines: what they say, how they are read, and when they are refused
pub mod Command
pub mod LineFaults
pub mod Reading
pub mod Lines
-- plans, which an explain prints
pub mod Plans
pub mod Joined
pub mod PlanOf
pub mod Explained
-- scores, and the order of answers by them
pub mod Uses
pub mod Scores
pub mod Ranked
-- dumps
pub mod Plain
pub mod DumpLines
pub mod Dumps
-- replies, open cursors, and the machine's step
pub mod Searching
pub mod OpenAnswers
pub mod Cursors
pub mod Machine
-- the statements of laws on numbers and ranges, to which the step does not come
pub mod RangeLaws
