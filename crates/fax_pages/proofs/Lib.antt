mod FoundPages
