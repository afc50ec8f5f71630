-- What lies in a mailbox, and who waits there.
--     IsVacant      a job can be laid into it
--     job_on, job_back, job_to_do      the job that lies in it; that was done; that is to be done
--     is_away, is_idle      whoever wants the job waits for its worker; the worker waits
use Rattle.std.specs.Prelude.{◌≡◌, Bool, true, false, not, Option, Some, None, if◌then◌else◌}
use Rattle.worker_threads.specs.declared.state.MailboxState.{MailboxState}
use Rattle.worker_threads.specs.declared.state.JobState.{JobState}
use Rattle.worker_threads.specs.declared.state.JobState.TheVariants.{Empty, Given, Working, Back}

module _ {J : Type 0} where
  -- a mailbox is open and has no job
  abbrev pub IsVacant : MailboxState J → Type 0
  IsVacant p = (p.slot ≡ Empty) × (p.closed ≡ false)

  -- the job that lies in a mailbox
  abbrev pub job_on : JobState J → Option J
  job_on Empty = None
  job_on (Given job) = Some job
  job_on Working = None
  job_on (Back job) = Some job

  -- the job that lies there and was done
  abbrev pub job_back : JobState J → Option J
  job_back Empty = None
  job_back (Given job) = None
  job_back Working = None
  job_back (Back job) = Some job

  -- the job that lies there and was not done
  abbrev pub job_given : JobState J → Option J
  job_given Empty = None
  job_given (Given job) = Some job
  job_given Working = None
  job_given (Back job) = None

  -- the job that the worker of an open mailbox is to do
  abbrev pub job_to_do : MailboxState J → Option J
  job_to_do p = if p.closed then None else job_given p.slot

  -- a worker has the job of a mailbox that is closed or not, or will have it
  abbrev pub is_away : JobState J → Bool → Bool
  is_away Empty closed = false
  is_away (Given job) closed = not closed
  is_away Working closed = true
  is_away (Back job) closed = false

  -- a worker has nothing to do at a mailbox that is closed or not, and stays
  abbrev pub is_idle : JobState J → Bool → Bool
  is_idle Empty closed = not closed
  is_idle (Given job) closed = false
  is_idle Working closed = not closed
  is_idle (Back job) closed = not closed
