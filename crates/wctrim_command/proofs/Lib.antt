mod TrimArgumentsLemmas
mod CommandLemmas
mod FaultLemmas
mod ExecutionLemmas
mod ProgramLemmas
