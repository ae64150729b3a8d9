-- What a host in memory is seen as, and how its calls change it.
use Rattle.std.specs.Prelude.{ℕ, List, [], ◌∷◌, ◌++◌, Option, Some, Result, Ok, Err}
use Rattle.jv_host.specs.declared.host.HostFile.{HostFile}
use Rattle.jv_host.specs.declared.host.HostCall.{HostCall}
use Rattle.jv_host.specs.declared.host.HostFault.{HostFault}
use Rattle.jv_host.specs.declared.host.HostFault.TheVariants.{Failed, Memory}
use Rattle.jv_host.specs.Counts.{one_more}

-- the files that can be read, the numbers of the calls that are to fail, the files written, the calls that answered, the
-- last one that failed, how many calls there were, and how many of each kind failed
pub record MemHostState : Type 0 where
  pub files : List HostFile
  pub fail : List ℕ
  pub written : List HostFile
  pub answered : List HostCall
  pub failed : Option HostCall
  pub calls : ℕ
  pub read_faults : ℕ
  pub write_faults : ℕ

-- a host after a call is counted
abbrev pub counted : MemHostState → MemHostState
counted host = record host { calls = one_more host.calls }

-- a host after a list or a read answers
abbrev pub after_read : {T : Type 0} → Result T HostFault → HostCall → MemHostState → MemHostState
after_read (Ok _) call host = record host { answered = host.answered ++ call ∷ [] }
after_read (Err Failed) call host = record host { answered = host.answered ++ call ∷ []; failed = Some call; read_faults = one_more host.read_faults }
after_read (Err Memory) call host = host

-- a host after the write of a file answers
abbrev pub after_write : {T : Type 0} → Result T HostFault → HostCall → HostFile → MemHostState → MemHostState
after_write (Ok _) call file host = record host { answered = host.answered ++ call ∷ []; written = host.written ++ file ∷ [] }
after_write (Err Failed) call file host = record host { answered = host.answered ++ call ∷ []; failed = Some call; write_faults = one_more host.write_faults }
after_write (Err Memory) call file host = host
